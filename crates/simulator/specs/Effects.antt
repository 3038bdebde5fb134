-- What one access or one miss does to the parts, if it happens.
-- Assumes nothing.
use Rattle.std.specs.Prelude.{◌≡◌, ℕ, ◌≤◌, Bool, true, false, not, T, ◌⊎◌, ◌∷◌, Result, Ok, Err}
use mathlib.Core.List.{Memᴰ}
use Rattle.house.specs.Event.{TookFrom, PutInto, Missed}
use Rattle.house.specs.Machine.{with_mem, put, frame_in, may_write, walked}
use Rattle.simulator.specs.declared.cached.PageEntry.{PageEntry}
use Rattle.simulator.specs.declared.front.NoRoom.{NoRoom as Full}
use Rattle.simulator.specs.declared.refused.Refused.{Refused}
use Rattle.simulator.specs.declared.refused.Refused.TheVariants.{OutOfRange, NoRoom, NoFrame, ReadOnly}
use Rattle.simulator.specs.Store.{mem_of}
use Rattle.simulator.specs.Parts.{Parts, hw_of, seen_of}

-- nothing that can be seen
abbrev pub Same : Parts → Parts → Type 0
Same p q = (hw_of q ≡ hw_of p) × (seen_of q ≡ seen_of p)

-- why an access by an entry e is refused: of the log's room the parts tell nothing
abbrev pub Declined : Parts → ℕ → Refused → Type 0
Declined p e OutOfRange = ⊥
Declined p e NoRoom = Unit {0}
Declined p e NoFrame = p.frames ≤ frame_in e
Declined p e ReadOnly = T (not (may_write e))

-- under device d's number, at its page g, by an entry e, word k is read
abbrev pub TookAt : Parts → ℕ → ℕ → ℕ → ℕ → Result ℕ Refused → Parts → Type 0
TookAt p d g e k (Err r) q = Same p q × Declined p e r
TookAt p d g e k (Ok x) q = (x ≡ mem_of p.mem (frame_in e) k) × (hw_of q ≡ hw_of p) × (seen_of q ≡ TookFrom d g (frame_in e) k x ∷ seen_of p)

-- x is written there
abbrev pub PutAt : Parts → ℕ → ℕ → ℕ → ℕ → ℕ → Result (Unit {0}) Refused → Parts → Type 0
PutAt p d g e k x (Err r) q = Same p q × Declined p e r
PutAt p d g e k x (Ok u) q = T (may_write e) × (hw_of q ≡ with_mem (put (frame_in e) k x (mem_of p.mem)) (hw_of p)) × (seen_of q ≡ PutInto d g (frame_in e) k x ∷ seen_of p)

-- the tables have no entry for page g of device d, or none that may be written where it is to write
abbrev pub NoWay : Parts → ℕ → ℕ → Bool → Type 0
NoWay p d g w = (walked (hw_of p) d g ≡ 0) ⊎ (T w × T (not (may_write (walked (hw_of p) d g))))

-- nothing is found there, or nothing that may be written
abbrev pub MissedAt : Parts → ℕ → ℕ → Bool → Result Bool Full → Parts → Type 0
MissedAt p d g w (Err r) q = Same p q
MissedAt p d g w (Ok false) q = Same p q × (NoWay p d g w → ⊥)
MissedAt p d g w (Ok true) q = NoWay p d g w × (hw_of q ≡ hw_of p) × (seen_of q ≡ Missed d g w ∷ seen_of p)

-- page g of device d is kept
abbrev pub KeepsPage : ℕ → ℕ → Parts → Type 0
KeepsPage d g p = (e : PageEntry) × Memᴰ e p.leaves × (e.device ≡ d) × (e.page ≡ g)
