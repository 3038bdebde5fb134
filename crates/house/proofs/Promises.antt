-- What is promised beside the main promise. Assumes nothing.
use Rattle.std.proofs.Common.{◌≡◌, ℕ, Bool, true, false, T, ◌⊎◌, List, ◌∷◌, sym, subst, ⊎_elim}
use Rattle.house.specs.declared.Call.{Call}
use Rattle.house.specs.Event.{Event, TookFrom, PutInto}
use Rattle.house.specs.Machine.{Hw}
use Rattle.house.specs.Meaning.{Lent, Leaving, Use, Of, State, loan_of, reaches, acts, Run, Now}
use Rattle.house.specs.Promise.{start_of, OnePlace, LentByDriver, HomeIsQuiet, NewIsNoughts}
use Rattle.house.proofs.Shelf.{here}
use Rattle.house.proofs.MeaningUses.{Lawful}
use Rattle.house.proofs.Good.{Fine, fine, fine_start}
use Rattle.house.proofs.Latest.{Before, latest, reached}

-- what holds of every state of a row that is explained from the machine's start on
pub from_start : (start : State) (h : Hw) → start ≡ start_of h → (every : Call → Bool) (es : List Event) (s : State) (n : Now) → Run every start es s n → Fine s
from_start start h e every es s n r = fine every start (subst Fine (sym e) (fine_start h)) r

pub one_place : OnePlace
one_place start h e every es s n r = let G = from_start start h e every es s n r in (G.place, G.page)

pub lent_by_driver : LentByDriver
lent_by_driver start h e every es s n r =
    let G = from_start start h e every es s n r in
    (λ f c v d p w l q. subst (λ (u : Use). Lawful u s.dev) q (G.lawful f), λ f c v d p w l q. subst (λ (u : Use). Lawful u s.dev) q (G.lawful f), G.groups)

touched : (every : Call → Bool) (start : State) (es : List Event) (d p f k x : ℕ) (w : Bool) (t : State) (m : Now) → Run every start es t m → T (reaches d p w (loan_of (t.what f))) →
    (t : State) × (m : Now) × Run every start es t m × ((c : ℕ) × (v : ℕ) × (w : Bool) × ((t.what f ≡ Of c v (Lent d p w)) ⊎ (t.what f ≡ Of c v (Leaving d p w))))
touched every start es d p f k x w t m r h = let q = reached d p w (t.what f) h in (t, m, r, (q.0, q.1, q.2, q.3))

pub home_is_quiet : HomeIsQuiet
home_is_quiet start every es e s n r d p f k x is =
    ⊎_elim
    (λ (q : e ≡ TookFrom d p f k x). let b = subst (λ (y : Event). Before every start (y ∷ es)) q (latest every start r) in touched every start es d p f k x false b.0 b.1 b.2 b.3.1)
    (λ (q : e ≡ PutInto d p f k x). let b = subst (λ (y : Event). Before every start (y ∷ es)) q (latest every start r) in touched every start es d p f k x true b.0 b.1 b.2 b.3.1)
    is

pub new_is_noughts : NewIsNoughts
unfolding acts
new_is_noughts f k c v s h l = here f 0 (s.word f k)
