-- The machine: memory, the address spaces of programs, and the IOMMU with everything that it may still have cached or under way.
-- Nothing is assumed here.
use Rattle.std.specs.Prelude.{◌≡◌, ℕ, zero, suc, ◌+◌, ◌-◌, ◌*◌, ◌/◌, ◌%◌, ◌<◌, ◌≤◌, Bool, true, false, cond, not, ◌&&◌, T, ◌⊎◌, List, [], ◌∷◌, ◌++◌, Some, None, ◌==◌}
use mathlib.Core.List.{Memᴰ}
use Rattle.house.specs.declared.Call.{Call}
use Rattle.house.specs.Event.{Event, Asked, Loaded, Stored, Faulted, Poked, TookFrom, PutInto, Missed, Drained}

-- what one place of an address space maps
pub data Shown : Type 0 where
  Nothing : Shown
  Frame : ℕ → Shown
  Registers : ℕ → Shown

-- A frame is 512 words. Frame 0 is the device table: at word d stands 0, or 1 plus the frame of d's upper page table. At each slot
-- of an upper table stands 0, or 1 plus the frame of a lower table; there, for each page, 0 or an entry: 1 plus twice the frame, and
-- 1 more where writing is allowed. The next three records are what the IOMMU caches of the three levels.
pub record Up : Type 0 where
  pub dev : ℕ
  pub table : ℕ

pub record Mid : Type 0 where
  pub dev : ℕ
  pub slot : ℕ
  pub table : ℕ

pub record Leaf : Type 0 where
  pub dev : ℕ
  pub page : ℕ
  pub entry : ℕ

pub record Hw : Type 0 where
  pub frames : ℕ
  pub devices : ℕ
  pub group : ℕ → ℕ
  -- which program is allowed to open each device
  pub driver : ℕ → ℕ
  pub mem : ℕ → ℕ → ℕ
  pub space : ℕ → ℕ → Shown
  pub live : Bool
  pub ups : List Up
  pub mids : List Mid
  pub leaves : List Leaf
  -- accesses that were let through and are still under way
  pub flying : List Leaf
  -- how many more operations the keeper may ask for
  pub left : ℕ

abbrev pub with_mem : (ℕ → ℕ → ℕ) → Hw → Hw
with_mem m h = record { frames = h.frames; devices = h.devices; group = h.group; driver = h.driver; mem = m; space = h.space; live = h.live; ups = h.ups; mids = h.mids; leaves = h.leaves; flying = h.flying; left = h.left }

abbrev pub known : List Up → List Mid → List Leaf → List Leaf → Hw → Hw
known u m l f h = record { frames = h.frames; devices = h.devices; group = h.group; driver = h.driver; mem = h.mem; space = h.space; live = h.live; ups = u; mids = m; leaves = l; flying = f; left = h.left }

abbrev pub counted : Hw → Hw
counted h = record { frames = h.frames; devices = h.devices; group = h.group; driver = h.driver; mem = h.mem; space = h.space; live = h.live; ups = h.ups; mids = h.mids; leaves = h.leaves; flying = h.flying; left = h.left - 1 }

abbrev pub allowed : ℕ → Hw → Hw
allowed n h = record { frames = h.frames; devices = h.devices; group = h.group; driver = h.driver; mem = h.mem; space = h.space; live = h.live; ups = h.ups; mids = h.mids; leaves = h.leaves; flying = h.flying; left = n }

abbrev pub put : ℕ → ℕ → ℕ → (ℕ → ℕ → ℕ) → ℕ → ℕ → ℕ
put f k x m g j = cond (g == f && j == k) x (m g j)

abbrev pub shows : ℕ → ℕ → Shown → Hw → Hw
shows c v s h = record { frames = h.frames; devices = h.devices; group = h.group; driver = h.driver; mem = h.mem; space = λ w u. cond (w == c && u == v) s (h.space w u); live = h.live; ups = h.ups; mids = h.mids; leaves = h.leaves; flying = h.flying; left = h.left }

abbrev pub started : Hw → Hw
started h = record { frames = h.frames; devices = h.devices; group = h.group; driver = h.driver; mem = h.mem; space = h.space; live = true; ups = h.ups; mids = h.mids; leaves = h.leaves; flying = h.flying; left = h.left }

abbrev pub frame_in : ℕ → ℕ
frame_in e = (e - 1) / 2

abbrev pub may_write : ℕ → Bool
may_write e = (e - 1) % 2 == 1

-- the entry that a walk through the tables in memory finds for a page; 0 where the walk ends early
unfoldable pub lower : ℕ → ℕ → ℕ → Hw → ℕ
lower zero d p h = 0
lower (suc t) d p h = h.mem t (p % 512)

unfoldable pub upper : ℕ → ℕ → ℕ → Hw → ℕ
upper zero d p h = 0
upper (suc t) d p h = lower (h.mem t (p / 512)) d p h

abbrev pub walked : Hw → ℕ → ℕ → ℕ
walked h d p = cond h.live (upper (h.mem 0 d) d p h) 0

unfoldable pub drop_one : {A : Type 0} → ℕ → List A → List A
drop_one n [] = []
drop_one zero (x ∷ xs) = xs
drop_one (suc n) (x ∷ xs) = x ∷ drop_one n xs

-- One step that devices or the IOMMU may take at any time, unasked, with the events that it causes.
pub data Step : Hw → List Event → Hw → Type 0 where
  -- the IOMMU caches an upper table, a lower table or an entry: from memory, or going on from what is cached
  up : (h : Hw) (d t : ℕ) → T h.live → d < h.devices → h.mem 0 d ≡ suc t → Step h [] (known (record { dev = d; table = t } ∷ h.ups) h.mids h.leaves h.flying h)
  mid : (h : Hw) (u : Up) (s t : ℕ) → Memᴰ u h.ups → s < 512 → h.mem u.table s ≡ suc t →
      Step h [] (known h.ups (record { dev = u.dev; slot = s; table = t } ∷ h.mids) h.leaves h.flying h)
  leaf : (h : Hw) (m : Mid) (i : ℕ) → Memᴰ m h.mids → i < 512 → 0 < h.mem m.table i →
      Step h [] (known h.ups h.mids (record { dev = m.dev; page = 512 * m.slot + i; entry = h.mem m.table i } ∷ h.leaves) h.flying h)
  -- it drops something that it cached
  less_up : (h : Hw) (n : ℕ) → Step h [] (known (drop_one n h.ups) h.mids h.leaves h.flying h)
  less_mid : (h : Hw) (n : ℕ) → Step h [] (known h.ups (drop_one n h.mids) h.leaves h.flying h)
  less_leaf : (h : Hw) (n : ℕ) → Step h [] (known h.ups h.mids (drop_one n h.leaves) h.flying h)
  -- An access is let through by a cached entry; it is then performed any number of times, or dropped. Under whose number a device
  -- goes is not known beyond its group.
  flies : (h : Hw) (l : Leaf) → Memᴰ l h.leaves → Step h [] (known h.ups h.mids h.leaves (l ∷ h.flying) h)
  fails : (h : Hw) (n : ℕ) → Step h [] (known h.ups h.mids h.leaves (drop_one n h.flying) h)
  takes : (h : Hw) (l : Leaf) (k : ℕ) → Memᴰ l h.flying → k < 512 → Step h (TookFrom l.dev l.page (frame_in l.entry) k (h.mem (frame_in l.entry) k) ∷ []) h
  puts : (h : Hw) (l : Leaf) (k x : ℕ) → Memᴰ l h.flying → k < 512 → x < 18446744073709551616 → T (may_write l.entry) →
      Step h (PutInto l.dev l.page (frame_in l.entry) k x ∷ []) (with_mem (put (frame_in l.entry) k x h.mem) h)
  -- an access fails, but only where the tables in memory say so at that moment
  misses : (h : Hw) (d p : ℕ) (w : Bool) → d < h.devices → p < 262144 → (walked h d p ≡ 0) ⊎ (T w × T (not (may_write (walked h d p)))) → Step h (Missed d p w ∷ []) h

-- any number of such steps; the newest event stands first
pub data Steps : Hw → List Event → Hw → List Event → Type 0 where
  none : (h : Hw) (es : List Event) → Steps h es h es
  more : {h i j : Hw} {es fs gs : List Event} → Step h fs i → Steps i (fs ++ es) j gs → Steps h es j gs

-- the same while programs run too, which they do only between calls
pub data Runs : Hw → List Event → Hw → List Event → Type 0 where
  rest : (h : Hw) (es : List Event) → Runs h es h es
  device : {h i j : Hw} {es fs gs : List Event} → Step h fs i → Runs i (fs ++ es) j gs → Runs h es j gs
  loads : {h j : Hw} {es gs : List Event} (c v f k : ℕ) → c < 32 → v < 1024 → k < 512 → h.space c v ≡ Frame f → Runs h (Loaded c v k (h.mem f k) ∷ es) j gs → Runs h es j gs
  stores : {h j : Hw} {es gs : List Event} (c v f k x : ℕ) → c < 32 → v < 1024 → k < 512 → x < 18446744073709551616 → h.space c v ≡ Frame f →
      Runs (with_mem (put f k x h.mem) h) (Stored c v k x ∷ es) j gs → Runs h es j gs
  pokes : {h j : Hw} {es gs : List Event} (c v d : ℕ) → c < 32 → v < 1024 → h.space c v ≡ Registers d → Runs h (Poked c v d ∷ es) j gs → Runs h es j gs
  faults : {h j : Hw} {es gs : List Event} (c v : ℕ) → c < 32 → v < 1024 → h.space c v ≡ Nothing → Runs h (Faulted c v ∷ es) j gs → Runs h es j gs

-- nothing of the device is cached at any level, and none of its accesses is under way
unfoldable pub no_up : ℕ → List Up → Bool
no_up d [] = true
no_up d (x ∷ xs) = not (d == x.dev) && no_up d xs

unfoldable pub no_mid : ℕ → List Mid → Bool
no_mid d [] = true
no_mid d (x ∷ xs) = not (d == x.dev) && no_mid d xs

unfoldable pub no_leaf : ℕ → List Leaf → Bool
no_leaf d [] = true
no_leaf d (x ∷ xs) = not (d == x.dev) && no_leaf d xs

abbrev pub Forgotten : ℕ → Hw → Type 0
Forgotten d h = T (no_up d h.ups) × T (no_mid d h.mids) × T (no_leaf d h.leaves) × T (no_leaf d h.flying)

-- A drain. A yes needs a moment, within it, at which the device was forgotten; steps go on before and after that moment.
pub data Drains (d : ℕ) (h : Hw) (es : List Event) : Bool → Hw → List Event → Type 0 where
  yes' : {i j : Hw} {fs gs : List Event} → Steps h es i fs → Forgotten d i → Steps (counted i) (Drained d true ∷ fs) j gs → Drains d h es true j gs
  not_yet : {i j : Hw} {fs gs : List Event} → Steps h es i fs → Steps (counted i) (Drained d false ∷ fs) j gs → Drains d h es false j gs

-- a machine at its start: any words in memory, empty address spaces, the IOMMU off and with nothing cached
abbrev pub AtStart : Hw → Type 0
AtStart h =
    (2048 ≤ h.left) × (64 ≤ h.frames) × (h.frames ≤ 65536) × (h.devices ≤ 32) × ((d : ℕ) → h.group d < 32) × ((d : ℕ) → h.driver d < 32) × ((f k : ℕ) → h.mem f k < 18446744073709551616) × ((c v : ℕ) → h.space c v ≡ Nothing) ×
    (h.live ≡ false) × (h.ups ≡ []) × (h.mids ≡ []) × (h.leaves ≡ []) × (h.flying ≡ [])

-- programs run until one of them makes a call, or until nothing more comes
pub data Comes (h : Hw) (es : List Event) : Rattle.std.specs.declared.option.Option.Option (ℕ × Call) → Hw → List Event → Type 0 where
  comes : {j : Hw} {gs : List Event} (who : ℕ) (c : Call) → who < 32 → Runs h es j gs → Comes h es (Some (who, c)) (allowed 2048 j) (Asked who c ∷ gs)
  over : {j : Hw} {gs : List Event} → Runs h es j gs → Comes h es None j gs
