-- Steps of devices and of the unit keep the relation, and leave the rest of the machine as it was.
-- Assumes nothing.
use Rattle.std.proofs.Common.{◌≡◌, ℕ, suc, ◌+◌, ◌-◌, ◌*◌, ◌/◌, ◌%◌, ◌<◌, Bool, true, false, cond, not, ◌&&◌, ◌||◌, T, eqb, ◌⊎◌, List, ◌∷◌, ◌++◌, sym, refl, ap, ◌∙◌, subst, inl, inr, arith, eqb→eq, T_not}
use mathlib.Core.Path.{subst⁻¹}
use mathlib.Core.List.{Memᴰ}
use Rattle.house.specs.declared.Call.{Call}
use Rattle.house.specs.Event.{Event, TookFrom, PutInto, Drained}
use Rattle.house.specs.Machine.{Up, Mid, Leaf, Hw, Step, Steps, Drains, Forgotten, known, counted, with_mem, put, frame_in, may_write, walked, upper, lower, drop_one}
use Rattle.house.specs.Meaning.{Loan, Home, Lent, Leaving, Use, House, TableOf, Idle, Of, State, Now, Run, loan_of, is_home, is_lent, is_shut, reaches, set_word, set_drains, told_drain}
use Rattle.house.specs.Sound.{Tables, View, view_of, Held, Good, Mapped, Sound, SoundAt, Words, Shape, Shaped, Same, Steady, entry_of, is_page}
use Rattle.house.proofs.Shelf.{is_true, both, same_number, none_any}
use Rattle.house.proofs.Known.{all_cons, drop_in, no_up_cons, no_up_drop, no_up_not, no_mid_cons, no_mid_drop, no_mid_not, no_leaf_cons, no_leaf_drop, no_leaf_not}
use Rattle.house.proofs.Facts.{put_elsewhere}
use Rattle.house.proofs.Memory.{words_put, put_keeps}

-- WHAT NO STEP CHANGES
pub same_none : (h : Hw) → Same h h
same_none h = record { frames = refl; devices = refl; group = refl; driver = refl; space = refl; live = refl; left = refl }

pub same_then : {h i j : Hw} → Same h i → Same i j → Same h j
same_then a b =
    record {
      frames = b.frames ∙ a.frames;
      devices = b.devices ∙ a.devices;
      group = b.group ∙ a.group;
      driver = b.driver ∙ a.driver;
      space = b.space ∙ a.space;
      live = b.live ∙ a.live;
      left = b.left ∙ a.left;
    }

pub same_known : (u : List Up) (m : List Mid) (l f : List Leaf) (h : Hw) → Same h (known u m l f h)
same_known u m l f h = record { frames = refl; devices = refl; group = refl; driver = refl; space = refl; live = refl; left = refl }

pub same_mem : (m : ℕ → ℕ → ℕ) (h : Hw) → Same h (with_mem m h)
same_mem m h = record { frames = refl; devices = refl; group = refl; driver = refl; space = refl; live = refl; left = refl }

pub step_same : (h : Hw) (fs : List Event) (i : Hw) → Step h fs i → Same h i
step_same h fs i (Step.up _ d t l b e) = same_known (record { dev = d; table = t } ∷ h.ups) h.mids h.leaves h.flying h
step_same h fs i (Step.mid _ u s t m b e) = same_known h.ups (record { dev = u.dev; slot = s; table = t } ∷ h.mids) h.leaves h.flying h
step_same h fs i (Step.leaf _ m k a b e) = same_known h.ups h.mids (record { dev = m.dev; page = 512 * m.slot + k; entry = h.mem m.table k } ∷ h.leaves) h.flying h
step_same h fs i (Step.less_up _ n) = same_known (drop_one n h.ups) h.mids h.leaves h.flying h
step_same h fs i (Step.less_mid _ n) = same_known h.ups (drop_one n h.mids) h.leaves h.flying h
step_same h fs i (Step.less_leaf _ n) = same_known h.ups h.mids (drop_one n h.leaves) h.flying h
step_same h fs i (Step.flies _ l m) = same_known h.ups h.mids h.leaves (l ∷ h.flying) h
step_same h fs i (Step.fails _ n) = same_known h.ups h.mids h.leaves (drop_one n h.flying) h
step_same h fs i (Step.takes _ l k m b) = same_none h
step_same h fs i (Step.puts _ l k x m b c w) = same_mem (put (frame_in l.entry) k x h.mem) h
step_same h fs i (Step.misses _ d p w a b c) = same_none h

pub steps_same : {h : Hw} {es : List Event} {j : Hw} {gs : List Event} → Steps h es j gs → Same h j
steps_same (Steps.none h es) = same_none h
steps_same (Steps.more {h} {i} {j} {es} {fs} {gs} st rest) = same_then (step_same h fs i st) (steps_same rest)

-- USES AND LOANS
-- what a device reaches is somebody's page, and not at home
pub reached_page : (d p : ℕ) (w : Bool) (u : Use) → T (reaches d p w (loan_of u)) → (c : ℕ) × (v : ℕ) × (l : Loan) × (u ≡ Of c v l)
unfolding reaches loan_of
reached_page d p w House h = absurd h
reached_page d p w (TableOf e) h = absurd h
reached_page d p w Idle h = absurd h
reached_page d p w (Of c v l) h = (c, v, l, refl)

pub reached_is_page : (d p : ℕ) (w : Bool) (u : Use) → T (reaches d p w (loan_of u)) → T (is_page u)
unfolding reaches loan_of is_page
reached_is_page d p w House h = absurd h
reached_is_page d p w (TableOf e) h = absurd h
reached_is_page d p w Idle h = absurd h
reached_is_page d p w (Of c v l) h = tt

pub reached_not_home : (d p : ℕ) (w : Bool) (l : Loan) → T (reaches d p w l) → T (is_home l) → ⊥
unfolding reaches is_home
reached_not_home d p w Home h q = h
reached_not_home d p w (Lent e r x) h q = q
reached_not_home d p w (Leaving e r x) h q = q

pub house_home : (u : Use) → u ≡ House → T (is_home (loan_of u))
unfolding loan_of is_home
house_home u e = subst⁻¹ (λ (x : Use). T (is_home (loan_of x))) e tt

pub no_page_home : (u : Use) → T (not (is_page u)) → T (is_home (loan_of u))
unfolding loan_of is_home is_page
no_page_home House h = tt
no_page_home (TableOf d) h = tt
no_page_home Idle h = tt
no_page_home (Of c v l) h = absurd h

lent_loan : (d p : ℕ) (w : Bool) (l : Loan) → T (is_lent d p w l) → (x : Bool) × (l ≡ Lent d p x) × T (x || not w)
unfolding is_lent
lent_loan d p w Home h = absurd h
lent_loan d p w (Leaving e q x) h = absurd h
lent_loan d p w (Lent e q x) h =
    let a = both (eqb d e && eqb p q) (x || not w) h in
    let b = both (eqb d e) (eqb p q) a.0 in
    let m : d ≡ e = eqb→eq d e b.0 in
    let n : p ≡ q = eqb→eq p q b.1 in
    let k : Lent e q x ≡ Lent d p x = cc in
    (x, k, a.1)

pub lent_use : (d p : ℕ) (w : Bool) (u : Use) → T (is_lent d p w (loan_of u)) → (c : ℕ) × (v : ℕ) × (x : Bool) × (u ≡ Of c v (Lent d p x)) × T (x || not w)
unfolding is_lent loan_of
lent_use d p w House h = absurd h
lent_use d p w (TableOf e) h = absurd h
lent_use d p w Idle h = absurd h
lent_use d p w (Of c v l) h = let r = lent_loan d p w l h in (c, v, r.0, ap (λ (x : Loan). Of c v x) r.1, r.2)

-- WALKS
pub walked_is : (h : Hw) (d p a b : ℕ) → T h.live → h.mem 0 d ≡ suc a → h.mem a (p / 512) ≡ suc b → walked h d p ≡ h.mem b (p % 512)
unfolding upper lower
walked_is h d p a b l e k =
    ap (λ (x : Bool). cond x (upper (h.mem 0 d) d p h) 0) (is_true h.live l) ∙ ap (λ (x : ℕ). upper x d p h) e ∙ ap (λ (x : ℕ). lower x d p h) k

-- what is lent, the walk finds
pub walked_lent : (t : Tables) (v : View) (h : Hw) (f d p : ℕ) (w : Bool) → SoundAt t v h → Mapped t v h.mem h.live f d p w → walked h d p ≡ entry_of f w
walked_lent t v h f d p w s m =
    let b : p < 262144 = m.page in
    let k = s.slot d (p / 512) m.held (omega arith) in
    let c = ap (λ (x : Bool). cond x (suc (t.low d (p / 512))) 0) (is_true (v.slots d (p / 512)) m.there) in
    walked_is h d p (t.top d) (t.low d (p / 512)) m.started m.root (k ∙ c) ∙ m.entry

not_missed : (f e : ℕ) (x w : Bool) → T (x || not w) → e ≡ entry_of f x → (e ≡ 0) ⊎ (T w × T (not (may_write e))) → ⊥
not_missed f e true w r q (inl z) = let y : e ≡ suc (suc (2 * f)) = q in omega arith
not_missed f e true w r q (inr p) = let y : e ≡ suc (suc (2 * f)) = q in T_not (may_write e) p.1 (same_number ((e - 1) % 2) 1 (omega arith))
not_missed f e false true r q m = absurd r
not_missed f e false false r q (inl z) = let y : e ≡ suc (2 * f) = q in omega arith
not_missed f e false false r q (inr p) = absurd p.0

pub missed_not_lent : (t : Tables) (v : View) (h : Hw) (d p : ℕ) (w : Bool) → SoundAt t v h → (walked h d p ≡ 0) ⊎ (T w × T (not (may_write (walked h d p)))) → (f : ℕ) → f < v.frames → T (is_lent d p w (loan_of (v.what f))) → ⊥
missed_not_lent t v h d p w s m f b l =
    let r = lent_use d p w (v.what f) l in
    not_missed f (walked h d p) r.2 w r.4 (walked_lent t v h f d p r.2 s (s.lent f r.0 r.1 d p r.2 b r.3)) m

-- WHAT THE UNIT LEARNS
pub relearnt :
    {t : Tables} {v : View} {mem : ℕ → ℕ → ℕ} {live : Bool} {ups : List Up} {mids : List Mid} {leaves flying : List Leaf} (u : List Up) (m : List Mid) (l f : List Leaf) →
    Sound t v mem live ups mids leaves flying → ((x : Up) → Memᴰ x u → Held v x.dev × (x.table ≡ t.top x.dev)) →
    ((x : Mid) → Memᴰ x m → (x.slot < 512) × T (v.slots x.dev x.slot) × (x.table ≡ t.low x.dev x.slot)) → ((x : Leaf) → Memᴰ x l → Good v x.dev x.page x.entry) →
    ((x : Leaf) → Memᴰ x f → Good v x.dev x.page x.entry) → Sound t v mem live u m l f
relearnt u m l f s a b c d =
    record {
      house = s.house;
      root = s.root;
      top = s.top;
      slot = s.slot;
      held = s.held;
      low = s.low;
      apart = s.apart;
      distinct = s.distinct;
      entries = s.entries;
      ups_good = a;
      mids_good = b;
      leaves_good = c;
      flying_good = d;
      lent = s.lent;
    }

-- an upper table that frame 0 names
up_good : (t : Tables) (v : View) (h : Hw) (d a : ℕ) → SoundAt t v h → T h.live → d < v.devices → h.mem 0 d ≡ suc a → Held v d × (a ≡ t.top d)
up_good t v h d a s l b e = go (s.root l d b)
  where
    go : (h.mem 0 d ≡ 0) ⊎ ((h.mem 0 d ≡ suc (t.top d)) × T (not (is_shut (v.dev d)))) → Held v d × (a ≡ t.top d)
    go (inl z) = absurd (omega arith)
    go (inr r) = let k : h.mem 0 d ≡ suc (t.top d) = r.0 in ((b, r.1), omega arith)

slot_there : (b : Bool) (x y a : ℕ) → x ≡ cond b (suc y) 0 → x ≡ suc a → T b × (a ≡ y)
slot_there true x y a p q = let r : x ≡ suc y = p in (tt, omega arith)
slot_there false x y a p q = let r : x ≡ 0 = p in absurd (omega arith)

-- a lower table that an upper one names
mid_good : (t : Tables) (v : View) (h : Hw) (d e i a : ℕ) → SoundAt t v h → Held v d → e ≡ t.top d → i < 512 → h.mem e i ≡ suc a → (i < 512) × T (v.slots d i) × (a ≡ t.low d i)
mid_good t v h d e i a s k q b m =
    let r = slot_there (v.slots d i) (h.mem (t.top d) i) (t.low d i) a (s.slot d i k b) (subst (λ (x : ℕ). h.mem x i ≡ suc a) q m) in
    (b, r.0, r.1)

-- an entry of a lower table
leaf_good : (t : Tables) (v : View) (h : Hw) (d i e j : ℕ) → SoundAt t v h → i < 512 → T (v.slots d i) → e ≡ t.low d i → j < 512 → 0 < h.mem e j → Good v d (512 * i + j) (h.mem e j)
leaf_good t v h d i e j s a k q b m = subst⁻¹ (λ (x : ℕ). Good v d (512 * i + j) (h.mem x j)) q (go (s.entries d i j k a b))
  where
    go : (h.mem (t.low d i) j ≡ 0) ⊎ Good v d (512 * i + j) (h.mem (t.low d i) j) → Good v d (512 * i + j) (h.mem (t.low d i) j)
    go (inl z) = let r : 0 < h.mem (t.low d i) j = subst (λ (x : ℕ). 0 < h.mem x j) q m in absurd (omega arith)
    go (inr r) = r

-- STEADY
-- other things known, the same memory
learnt :
    {can : Call → Bool} {start : State} {t : Tables} {s : State} {n : Now} {es : List Event} (h : Hw) (u : List Up) (m : List Mid) (l f : List Leaf) →
    Words (view_of s) s.word h.mem → Run can start es s n → Sound t (view_of s) h.mem h.live u m l f →
    ((d : ℕ) → h.mem 0 d ≡ 0 → Forgotten d h → Forgotten d (known u m l f h)) → Steady can start t s n h (known u m l f h) es
learnt {s = s} h u m l f words run sound forgets =
    record { word = s.word; run = run; sound = sound; words = words; same = same_known u m l f h; quiet = λ f k q. (refl, refl); forgets = forgets }

still :
    {can : Call → Bool} {start : State} {t : Tables} {s : State} {n : Now} {es : List Event} (h : Hw) →
    SoundAt t (view_of s) h → Words (view_of s) s.word h.mem → Run can start es s n → Steady can start t s n h h es
still h sound words run = learnt h h.ups h.mids h.leaves h.flying words run sound (λ d z g. g)

took_run :
    (can : Call → Bool) (start : State) (s : State) (n : Now) (es : List Event) (d p f k : ℕ) (mem : ℕ → ℕ → ℕ) →
    Words (view_of s) s.word mem → Run can start es s n → f < s.frames → T (reaches d p false (loan_of (s.what f))) → k < 512 → Run can start (TookFrom d p f k (mem f k) ∷ es) s n
took_run can start s n es d p f k mem words run a r b =
    let u = reached_page d p false (s.what f) r in
    subst (λ (x : ℕ). Run can start (TookFrom d p f k x ∷ es) s n) (words f u.0 u.1 k u.2 a u.3 b) (Run.took d p f k run a r)

put_in :
    (can : Call → Bool) (start : State) (t : Tables) (s : State) (n : Now) (es : List Event) (h : Hw) (d p f k x : ℕ) →
    SoundAt t (view_of s) h → Words (view_of s) s.word h.mem → Run can start es s n → f < s.frames → T (reaches d p true (loan_of (s.what f))) →
    Steady can start t s n h (with_mem (put f k x h.mem) h) (PutInto d p f k x ∷ es)
put_in can start t s n es h d p f k x sound words run a r =
    record {
      word = put f k x s.word;
      run = Run.puts d p f k x run a r;
      sound = put_keeps f k x (reached_is_page d p true (s.what f) r) sound;
      words = words_put (view_of s) s.word h.mem f k x words;
      same = same_mem (put f k x h.mem) h;
      quiet = λ g j q. (put_elsewhere f k x h.mem g j (other g q), put_elsewhere f k x s.word g j (other g q));
      forgets = λ d z g. g;
    }
  where
    other : (g : ℕ) → T (is_home (loan_of (s.what g))) → g ≡ f → ⊥
    other g q e = reached_not_home d p true (loan_of (s.what f)) r (subst (λ (y : ℕ). T (is_home (loan_of (s.what y)))) e q)

pub step_keeps :
    {can : Call → Bool} {start : State} {t : Tables} {s : State} {n : Now} {h : Hw} {fs : List Event} {i : Hw} {es : List Event} →
    SoundAt t (view_of s) h → Words (view_of s) s.word h.mem → Shape s h → Run can start es s n → Step h fs i → Steady can start t s n h i (fs ++ es)
step_keeps {t = t} {s = s} {h = h} sound words shape run (Step.up _ d a l b e) =
    let x : Up = record { dev = d; table = a } in
    let good = up_good t (view_of s) h d a sound l (subst⁻¹ (λ (m : ℕ). d < m) shape.devices_are b) e in
    learnt h (x ∷ h.ups) h.mids h.leaves h.flying words run
    (relearnt (x ∷ h.ups) h.mids h.leaves h.flying sound (all_cons (λ (y : Up). Held (view_of s) y.dev × (y.table ≡ t.top y.dev)) x h.ups good sound.ups_good)
    sound.mids_good sound.leaves_good sound.flying_good)
    (λ c z g. (no_up_cons c x h.ups (λ q. let r : h.mem 0 c ≡ suc a = subst⁻¹ (λ (y : ℕ). h.mem 0 y ≡ suc a) q e in omega arith) g.0, g.1, g.2, g.3))
step_keeps {t = t} {s = s} {h = h} sound words shape run (Step.mid _ u k a m b e) =
    let x : Mid = record { dev = u.dev; slot = k; table = a } in
    let up = sound.ups_good u m in
    let good = mid_good t (view_of s) h u.dev u.table k a sound up.0 up.1 b e in
    learnt h h.ups (x ∷ h.mids) h.leaves h.flying words run
    (relearnt h.ups (x ∷ h.mids) h.leaves h.flying sound sound.ups_good
    (all_cons (λ (y : Mid). (y.slot < 512) × T (s.slots y.dev y.slot) × (y.table ≡ t.low y.dev y.slot)) x h.mids good sound.mids_good) sound.leaves_good sound.flying_good)
    (λ c z g. (g.0, no_mid_cons c x h.mids (no_up_not c h.ups g.0 u m) g.1, g.2, g.3))
step_keeps {t = t} {s = s} {h = h} sound words shape run (Step.leaf _ m k a b e) =
    let x : Leaf = record { dev = m.dev; page = 512 * m.slot + k; entry = h.mem m.table k } in
    let mid = sound.mids_good m a in
    let good = leaf_good t (view_of s) h m.dev m.slot m.table k sound mid.0 mid.1 mid.2 b e in
    learnt h h.ups h.mids (x ∷ h.leaves) h.flying words run
    (relearnt h.ups h.mids (x ∷ h.leaves) h.flying sound sound.ups_good sound.mids_good
    (all_cons (λ (y : Leaf). Good (view_of s) y.dev y.page y.entry) x h.leaves good sound.leaves_good) sound.flying_good)
    (λ c z g. (g.0, g.1, no_leaf_cons c x h.leaves (no_mid_not c h.mids g.1 m a) g.2, g.3))
step_keeps {h = h} sound words shape run (Step.less_up _ k) =
    learnt h (drop_one k h.ups) h.mids h.leaves h.flying words run
    (relearnt (drop_one k h.ups) h.mids h.leaves h.flying sound (λ x m. sound.ups_good x (drop_in k h.ups x m)) sound.mids_good sound.leaves_good sound.flying_good)
    (λ c z g. (no_up_drop c k h.ups g.0, g.1, g.2, g.3))
step_keeps {h = h} sound words shape run (Step.less_mid _ k) =
    learnt h h.ups (drop_one k h.mids) h.leaves h.flying words run
    (relearnt h.ups (drop_one k h.mids) h.leaves h.flying sound sound.ups_good (λ x m. sound.mids_good x (drop_in k h.mids x m)) sound.leaves_good sound.flying_good)
    (λ c z g. (g.0, no_mid_drop c k h.mids g.1, g.2, g.3))
step_keeps {h = h} sound words shape run (Step.less_leaf _ k) =
    learnt h h.ups h.mids (drop_one k h.leaves) h.flying words run
    (relearnt h.ups h.mids (drop_one k h.leaves) h.flying sound sound.ups_good sound.mids_good (λ x m. sound.leaves_good x (drop_in k h.leaves x m)) sound.flying_good)
    (λ c z g. (g.0, g.1, no_leaf_drop c k h.leaves g.2, g.3))
step_keeps {s = s} {h = h} sound words shape run (Step.flies _ l m) =
    learnt h h.ups h.mids h.leaves (l ∷ h.flying) words run
    (relearnt h.ups h.mids h.leaves (l ∷ h.flying) sound sound.ups_good sound.mids_good sound.leaves_good
    (all_cons (λ (y : Leaf). Good (view_of s) y.dev y.page y.entry) l h.flying (sound.leaves_good l m) sound.flying_good))
    (λ c z g. (g.0, g.1, g.2, no_leaf_cons c l h.flying (no_leaf_not c h.leaves g.2 l m) g.3))
step_keeps {h = h} sound words shape run (Step.fails _ k) =
    learnt h h.ups h.mids h.leaves (drop_one k h.flying) words run
    (relearnt h.ups h.mids h.leaves (drop_one k h.flying) sound sound.ups_good sound.mids_good sound.leaves_good (λ x m. sound.flying_good x (drop_in k h.flying x m)))
    (λ c z g. (g.0, g.1, g.2, no_leaf_drop c k h.flying g.3))
step_keeps {can = can} {start = start} {s = s} {n = n} {h = h} {es = es} sound words shape run (Step.takes _ l k m b) =
    let good = sound.flying_good l m in
    still h sound words (took_run can start s n es l.dev l.page (frame_in l.entry) k h.mem words run good.frame good.reads b)
step_keeps {can = can} {start = start} {t = t} {s = s} {n = n} {h = h} {es = es} sound words shape run (Step.puts _ l k x m b c w) =
    let good = sound.flying_good l m in
    put_in can start t s n es h l.dev l.page (frame_in l.entry) k x sound words run good.frame (good.writes w)
step_keeps {t = t} {s = s} {h = h} sound words shape run (Step.misses _ d p w a b c) =
    still h sound words (Run.misses d p w run (none_any s.frames (λ (f : ℕ). is_lent d p w (loan_of (s.what f))) (missed_not_lent t (view_of s) h d p w sound c)))

-- one after the other
pub steady_then :
    {can : Call → Bool} {start : State} {t : Tables} {s : State} {n : Now} {h i j : Hw} {fs gs : List Event} →
    s.what 0 ≡ House → (a : Steady can start t s n h i fs) → Steady can start t (set_word a.word s) n i j gs → Steady can start t s n h j gs
steady_then {s = s} house a b =
    record {
      word = b.word;
      run = b.run;
      sound = b.sound;
      words = b.words;
      same = same_then a.same b.same;
      quiet = λ f k q. ((b.quiet f k q).0 ∙ (a.quiet f k q).0, (b.quiet f k q).1 ∙ (a.quiet f k q).1);
      forgets = λ d z g. b.forgets d ((a.quiet 0 d (house_home (s.what 0) house)).0 ∙ z) (a.forgets d z g);
    }

pub shape_same : {n m : ℕ} {g d : ℕ → ℕ} {h j : Hw} → Shaped n m g d h.frames h.devices h.group h.driver → Same h j → Shaped n m g d j.frames j.devices j.group j.driver
shape_same p q = record { frames_are = p.frames_are ∙ sym q.frames; devices_are = p.devices_are ∙ sym q.devices; group_is = p.group_is ∙ sym q.group; driver_is = p.driver_is ∙ sym q.driver }

pub steps_keep :
    {can : Call → Bool} {start : State} {t : Tables} {s : State} {n : Now} {h : Hw} {es : List Event} {j : Hw} {gs : List Event} →
    SoundAt t (view_of s) h → Words (view_of s) s.word h.mem → Shape s h → Run can start es s n → Steps h es j gs → Steady can start t s n h j gs
steps_keep sound words shape run (Steps.none h es) = still h sound words run
steps_keep {s = s} sound words shape run (Steps.more {h} {i} {j} {es} {fs} {gs} st rest) =
    let a = step_keeps sound words shape run st in
    steady_then sound.house a (steps_keep {s = set_word a.word s} a.sound a.words (shape_same shape a.same) a.run rest)

-- ASKED TO FORGET
-- steps, the moment at which it is said, and steps again
pub record Split (d : ℕ) (h : Hw) (es : List Event) (b : Bool) (j : Hw) (gs : List Event) : Type 0 where
  pub mid : Hw
  pub events : List Event
  pub before : Steps h es mid events
  pub forgot : T b → Forgotten d mid
  pub after : Steps (counted mid) (Drained d b ∷ events) j gs

pub drain_split : {d : ℕ} {h : Hw} {es : List Event} {b : Bool} {j : Hw} {gs : List Event} → Drains d h es b j gs → Split d h es b j gs
drain_split (Drains.yes' {i} {j} {fs} {gs} a f c) = record { mid = i; events = fs; before = a; forgot = λ x. f; after = c }
drain_split (Drains.not_yet {i} {j} {fs} {gs} a c) = record { mid = i; events = fs; before = a; forgot = λ x. absurd x; after = c }

pub drained : {can : Call → Bool} {start : State} {s : State} {n : Now} {es : List Event} (d : ℕ) (b : Bool) → Run can start es s n → Run can start (Drained d b ∷ es) (told_drain d b s) n
drained d b run = Run.drains d b run

-- the answer noted between what came before and what comes after
told_then :
    {can : Call → Bool} {start : State} {t : Tables} {s : State} {n : Now} {h i j : Hw} {fs gs : List Event} (x y : List ℕ) (e : Event) → s.what 0 ≡ House → (a : Steady can start t s n h i fs) →
    Run can start (e ∷ fs) (set_drains x y (set_word a.word s)) n → Steady can start t (set_drains x y (set_word a.word s)) n (counted i) j gs → Steady can start t (set_drains x y s) n (counted h) j gs
told_then {can} {start} {t} {s} {n} {h} {i} {j} {fs} {gs} x y e house a run b = steady_then {s = set_drains x y s} house noted b
  where
    noted : Steady can start t (set_drains x y s) n (counted h) (counted i) (e ∷ fs)
    noted =
        record {
          word = a.word;
          run = run;
          sound = a.sound;
          words = a.words;
          quiet = a.quiet;
          forgets = a.forgets;
          same =
              record {
                frames = a.same.frames;
                devices = a.same.devices;
                group = a.same.group;
                driver = a.same.driver;
                space = a.same.space;
                live = a.same.live;
                left = ap (λ (z : ℕ). z - 1) a.same.left;
              };
        }

pub drain_keeps :
    {can : Call → Bool} {start : State} {t : Tables} {s : State} {n : Now} {d : ℕ} {h : Hw} {es : List Event} {b : Bool} {j : Hw} {gs : List Event} →
    SoundAt t (view_of s) h → Words (view_of s) s.word h.mem → Shape s h → Run can start es s n → Drains d h es b j gs → Steady can start t (told_drain d b s) n (counted h) j gs
drain_keeps {s = s} {d = d} sound words shape run (Drains.yes' before f after) =
    let a = steps_keep sound words shape run before in
    let r = drained d true a.run in
    told_then (d ∷ s.drained) s.undrained (Drained d true) sound.house a r (steps_keep {s = told_drain d true (set_word a.word s)} a.sound a.words (shape_same shape a.same) r after)
drain_keeps {s = s} {d = d} sound words shape run (Drains.not_yet before after) =
    let a = steps_keep sound words shape run before in
    let r = drained d false a.run in
    told_then s.drained (d ∷ s.undrained) (Drained d false) sound.house a r (steps_keep {s = told_drain d false (set_word a.word s)} a.sound a.words (shape_same shape a.same) r after)
