-- How many events are owed, and that the room for them lasts.
use Rattle.std.proofs.Common.{◌≡◌, ℕ, ◌+◌, ◌≤◌, Bool, true, List, [], ◌∷◌, map, refl, ap, ◌∙◌, arith}
use Rattle.house.specs.Event.{Event, Asked, Told, Loaded, Stored, Faulted, Poked, TookFrom, PutInto, Missed, Drained}
use Rattle.house.specs.declared.Call.{Call}
use Rattle.house.specs.declared.Answer.{Answer}
use Rattle.house.specs.Meaning.{State, Now, Quiet, Under, Over, Run, begin, asks, loosened, acted, refused, not_built, tells, loads, stores, pokes, faults, took, puts, misses, drains}
use Rattle.simulator.specs.declared.events.Event.{Event as Note}
use Rattle.simulator.specs.declared.events.Event.TheVariants as note
use Rattle.simulator.specs.Notes.{event_of, aside, owed}

pub aside_owed : (e : Event) (es : List Event) → aside e ≡ true → owed (e ∷ es) ≡ owed es
unfolding owed
aside_owed (Asked c k) es h = absurd (let z : ◌≡◌ {A = ℕ} 0 1 = cc in omega arith)
aside_owed (Told c k a) es h = absurd (let z : ◌≡◌ {A = ℕ} 0 1 = cc in omega arith)
aside_owed (Loaded c v k x) es h = refl
aside_owed (Stored c v k x) es h = refl
aside_owed (Faulted c v) es h = refl
aside_owed (Poked c v d) es h = refl
aside_owed (TookFrom d p f k x) es h = refl
aside_owed (PutInto d p f k x) es h = refl
aside_owed (Missed d p w) es h = refl
aside_owed (Drained d b) es h = refl

pub owed_few : (es : List Event) → owed es ≤ 1
unfolding owed
owed_few [] = omega arith
owed_few (Asked c k ∷ es) = omega arith
owed_few (Told c k a ∷ es) = omega arith
owed_few (Loaded c v k x ∷ es) = owed_few es
owed_few (Stored c v k x ∷ es) = owed_few es
owed_few (Faulted c v ∷ es) = owed_few es
owed_few (Poked c v d ∷ es) = owed_few es
owed_few (TookFrom d p f k x ∷ es) = owed_few es
owed_few (PutInto d p f k x ∷ es) = owed_few es
owed_few (Missed d p w ∷ es) = owed_few es
owed_few (Drained d b ∷ es) = owed_few es

-- one noted aside, with room beyond what is owed
pub room_aside : (n : Note) (ns ms : List Note) (count count' left len : ℕ) → aside (event_of n) ≡ true → ms ≡ n ∷ ns → count' ≡ count + 1 → count + left + 2 ≤ len → count' + left + owed (map event_of ms) ≤ len
room_aside n ns ms count count' left len a e f l =
    let o = ap (λ (us : List Note). owed (map event_of us)) e ∙ aside_owed (event_of n) (map event_of ns) a in let k = owed_few (map event_of ns) in omega arith

-- one noted for an asking that was owed
pub room_asking : (n : Note) (ns ms : List Note) (count count' left left' len : ℕ) → aside (event_of n) ≡ true → ms ≡ n ∷ ns → count' ≡ count + 1 → left' + 1 ≡ left → count + left + owed (map event_of ns) ≤ len →
    count' + left' + owed (map event_of ms) ≤ len
room_asking n ns ms count count' left left' len a e f q l =
    let o = ap (λ (us : List Note). owed (map event_of us)) e ∙ aside_owed (event_of n) (map event_of ns) a in omega arith

-- an answer is owed exactly while a call is under way
abbrev pends_in : Now → ℕ
pends_in Quiet = 0
pends_in (Under c k) = 1
pends_in (Over c k a) = 1

run_owed : {can : Call → Bool} {start : State} {es : List Event} {s : State} {n : Now} → Run can start es s n → owed es ≡ pends_in n
unfolding owed
run_owed begin = refl
run_owed (asks c k r) = refl
run_owed (loosened r a b) = run_owed r
run_owed (acted f r a b c d) = run_owed r
run_owed (refused r a b) = run_owed r
run_owed (not_built r a) = run_owed r
run_owed (tells r a) = refl
run_owed (loads c v k r a) = run_owed r
run_owed (stores c v k x r a) = run_owed r
run_owed (pokes c v d r a) = run_owed r
run_owed (faults c v r a) = run_owed r
run_owed (took d p f k r a b) = run_owed r
run_owed (puts d p f k x r a b) = run_owed r
run_owed (misses d p w r a) = run_owed r
run_owed (drains d b r) = run_owed r

-- what may be told was owed
pub told_owed : (can : Call → Bool) (start : State) (es : List Event) (c : ℕ) (k : Call) (a : Answer) (s : State) (n : Now) → Run can start (Told c k a ∷ es) s n → owed es ≡ 1
told_owed can start es c k a s n (loosened r x y) = told_owed can start es c k a _ _ r
told_owed can start es c k a s n (acted f r x y z w) = told_owed can start es c k a _ _ r
told_owed can start es c k a s n (refused r x y) = told_owed can start es c k a _ _ r
told_owed can start es c k a s n (not_built r x) = told_owed can start es c k a _ _ r
told_owed can start es c k a s n (tells r x) = run_owed r

-- one noted for an asking: there is room for a whole call
pub room_asked : (ns ms : List Note) (c : ℕ) (k : Call) (count count' len : ℕ) → ms ≡ note.Asked c k ∷ ns → count' ≡ count + 1 → count + 2050 ≤ len → count' + 2048 + owed (map event_of ms) ≤ len
unfolding owed
room_asked ns ms c k count count' len e f l = let o : owed (map event_of ms) ≡ 1 = ap (λ (us : List Note). owed (map event_of us)) e in omega arith

-- one noted for an answer that was owed
pub room_told : (ns ms : List Note) (c : ℕ) (k : Call) (b : Answer) (count count' left len : ℕ) → ms ≡ note.Told c k b ∷ ns → count' ≡ count + 1 → owed (map event_of ns) ≡ 1 → count + left + owed (map event_of ns) ≤ len →
    count' + left + owed (map event_of ms) ≤ len
unfolding owed
room_told ns ms c k b count count' left len e f q l = let o : owed (map event_of ms) ≡ 0 = ap (λ (us : List Note). owed (map event_of us)) e in omega arith

-- at the start nothing is owed but the askings of setting up
pub room_start : (ns : List Note) (count len : ℕ) → ns ≡ [] → count + 2048 ≤ len → count + 2048 + owed (map event_of ns) ≤ len
unfolding owed
room_start ns count len e l = let o : owed (map event_of ns) ≡ 0 = ap (λ (us : List Note). owed (map event_of us)) e in omega arith
