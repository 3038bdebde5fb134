-- What an event that was seen says of the state at which it happened, beside the promises that are given.
-- Assumes nothing.
use Rattle.std.specs.Prelude.{◌≡◌, ℕ, ◌<◌, Bool, true, T, ◌⊎◌, List, ◌∷◌, ◌≢◌}
use Rattle.house.specs.declared.Call.{Call}
use Rattle.house.specs.Event.{Event, Faulted, Poked, PutInto, Missed}
use Rattle.house.specs.Machine.{Hw}
use Rattle.house.specs.Meaning.{Loan, Lent, Leaving, Of, Opened, State, Now, Quiet, Run}
use Rattle.house.specs.Promise.{start_of}

-- What is written was lent to be written, or is leaving such a loan.
abbrev pub WrittenWasLent : Type 0
WrittenWasLent =
    (start : State) (every : Call → Bool) (es : List Event) (s : State) (n : Now) (d p f k x : ℕ) → Run every start (PutInto d p f k x ∷ es) s n →
    (t : State) × (m : Now) × Run every start es t m × ((c : ℕ) × (v : ℕ) × ((t.what f ≡ Of c v (Lent d p true)) ⊎ (t.what f ≡ Of c v (Leaving d p true))))

-- A device misses a page only while no page is lent there; to write, only while none is lent there to be written.
abbrev pub MissedIsNotLent : Type 0
MissedIsNotLent =
    (start : State) (every : Call → Bool) (es : List Event) (s : State) (n : Now) (d p : ℕ) (writes : Bool) → Run every start (Missed d p writes ∷ es) s n →
    (t : State) × (m : Now) × Run every start es t m × ((f c v : ℕ) (w : Bool) → f < t.frames → t.what f ≡ Of c v (Lent d p w) → (T writes → T w) → ⊥)

-- no page of c's is at v
abbrev pub NoPage : State → ℕ → ℕ → Type 0
NoPage t c v = (f : ℕ) (l : Loan) → f < t.frames → t.what f ≢ Of c v l

-- A program faults only where it has neither a page nor registers.
abbrev pub FaultsAtNothing : Type 0
FaultsAtNothing =
    (start : State) (every : Call → Bool) (es : List Event) (s : State) (n : Now) (c v : ℕ) → Run every start (Faulted c v ∷ es) s n →
    (t : State) × Run every start es t Quiet × NoPage t c v × (t.regs c v ≡ 0)

-- At the place of a page of its own it neither faults nor reaches registers.
abbrev pub PageIsReached : Type 0
PageIsReached =
    (start : State) (h : Hw) → start ≡ start_of h → (every : Call → Bool) (es : List Event) (e : Event) (s : State) (n : Now) → Run every start (e ∷ es) s n → (c v d : ℕ) → (e ≡ Faulted c v) ⊎ (e ≡ Poked c v d) →
    (t : State) × Run every start es t Quiet × NoPage t c v

-- It reaches only the registers of a device that it has open.
abbrev pub PokesItsOwn : Type 0
PokesItsOwn =
    (start : State) (h : Hw) → start ≡ start_of h → (every : Call → Bool) (es : List Event) (s : State) (n : Now) (c v d : ℕ) → Run every start (Poked c v d ∷ es) s n →
    (t : State) × Run every start es t Quiet × (t.dev d ≡ Opened c)
