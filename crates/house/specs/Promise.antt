-- What the traits cite of the promise, and the theorems beside the main one. Nothing is assumed here.
use Rattle.std.specs.Prelude.{◌≡◌, ℕ, ◌+◌, ◌*◌, ◌<◌, Bool, not, T, ◌⊎◌, List, ◌∷◌}
use Rattle.house.specs.declared.Call.{Call}
use Rattle.house.specs.declared.Call.TheVariants.{Get}
use Rattle.house.specs.Event.{Event, TookFrom, PutInto}
use Rattle.house.specs.Machine.{Hw}
use Rattle.house.specs.Meaning.{Lent, Leaving, Of, State, is_of, is_at, loan_of, open_by, owner_is, has, acts, core, all, at_start, Now, Run}

-- the calls that are built: it only grows
abbrev pub can : Call → Bool
can = all

-- the core stays built
abbrev pub CoreBuilt : Type 0
CoreBuilt = (k : Call) → T (core k) → T (can k)

-- every call is built
abbrev pub AllBuilt : Type 0
AllBuilt = (k : Call) → T (can k)

-- how many words of room the keeper needs
abbrev pub room_of : ℕ → ℕ
room_of frames = 65536 + 2 * frames

-- the meaning at the start: frame 0 is the keeper's, every other frame idle, every device shut
abbrev pub start_of : Hw → State
start_of h = at_start h.frames h.devices h.group h.driver 1

-- No two frames are the page at one place, and no two are lent to or leaving one page of a device.
abbrev pub OnePlace : Type 0
OnePlace =
    (start : State) (h : Hw) → start ≡ start_of h → (every : Call → Bool) (es : List Event) (s : State) (n : Now) → Run every start es s n →
    ((c v f g : ℕ) → f < s.frames → g < s.frames → T (is_of c v (s.what f)) → T (is_of c v (s.what g)) → f ≡ g) ×
    ((d p f g : ℕ) → f < s.frames → g < s.frames → T (is_at d p (loan_of (s.what f))) → T (is_at d p (loan_of (s.what g))) → f ≡ g)

-- A loan's owner has the device open (or, for one that is leaving, open or closing), and all devices of a group that are held are
-- held by one program.
abbrev pub LentByDriver : Type 0
LentByDriver =
    (start : State) (h : Hw) → start ≡ start_of h → (every : Call → Bool) (es : List Event) (s : State) (n : Now) → Run every start es s n →
    ((f c v d p : ℕ) (w : Bool) → f < s.frames → s.what f ≡ Of c v (Lent d p w) → T (open_by c (s.dev d))) ×
    ((f c v d p : ℕ) (w : Bool) → f < s.frames → s.what f ≡ Of c v (Leaving d p w) → T (owner_is c (s.dev d))) ×
    ((d e c b : ℕ) → d < s.devices → e < s.devices → s.group d ≡ s.group e → T (owner_is c (s.dev d)) → T (owner_is b (s.dev e)) → c ≡ b)

-- A device touches only a page that is, at that moment, lent to it or leaving it there.
abbrev pub HomeIsQuiet : Type 0
HomeIsQuiet =
    (start : State) (every : Call → Bool) (es : List Event) (e : Event) (s : State) (n : Now) → Run every start (e ∷ es) s n → (d p f k x : ℕ) → (e ≡ TookFrom d p f k x) ⊎ (e ≡ PutInto d p f k x) →
    (t : State) × (m : Now) × Run every start es t m × ((c : ℕ) × (v : ℕ) × (w : Bool) × ((t.what f ≡ Of c v (Lent d p w)) ⊎ (t.what f ≡ Of c v (Leaving d p w))))

-- A page that was just got holds nothing of what its frame held before.
abbrev pub NewIsNoughts : Type 0
NewIsNoughts = (f k c v : ℕ) (s : State) → T (not (has s c v)) → f < s.frames → (acts f s c (Get v)).state.word f k ≡ 0
