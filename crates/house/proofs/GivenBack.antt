-- What was given back is not touched until it is lent again. Assumes nothing.
use Rattle.std.proofs.Common.{◌≡◌, ℕ, Bool, true, not, T, ◌⊎◌, List, ◌∷◌, refl, subst, inl, inr}
use Rattle.house.specs.declared.Call.TheVariants.{Close, Recall, End}
use Rattle.house.specs.declared.Answer.TheVariants.{Done}
use Rattle.house.specs.Event.{Event, Asked, Told, Loaded, Stored, Faulted, Poked, TookFrom, PutInto, Missed, Drained}
use Rattle.house.specs.Meaning.{Loan, Home, Lent, Leaving, Use, Of, State, loan_of, is_home, is_at, frame_of, loan, device_of}
use Rattle.house.specs.Gone.{opens, asked_open, RecalledIsGone, ClosedIsGone, EndedIsGone}
use Rattle.house.proofs.Shelf.{left, right}
use Rattle.house.proofs.MeaningUses.{found, found_is}
use Rattle.house.proofs.Latest.{latest}
use Rattle.house.proofs.Calls.{in_call}
use Rattle.house.proofs.Answered.{just_told}
use Rattle.house.proofs.After.{splits, touch_again}

-- an asking to open is one still
open_more : (d : ℕ) (e : Event) (es : List Event) → T (asked_open d es) → T (asked_open d (e ∷ es))
open_more d (Asked c k) es t = right (opens d k) (asked_open d es) t
open_more d (Told c k a) es t = t
open_more d (Loaded c v k x) es t = t
open_more d (Stored c v k x) es t = t
open_more d (Faulted c v) es t = t
open_more d (Poked c v e) es t = t
open_more d (TookFrom e p g k x) es t = t
open_more d (PutInto e p g k x) es t = t
open_more d (Missed e p w) es t = t
open_more d (Drained e b) es t = t

-- a page that is not home is lent somewhere, or leaving
away : (c v : ℕ) (u : Use) (l : Loan) → u ≡ Of c v l → T (not (is_home l)) → (p : ℕ) × (w : Bool) × ((u ≡ Of c v (Lent (device_of l) p w)) ⊎ (u ≡ Of c v (Leaving (device_of l) p w)))
unfolding is_home device_of
away c v u Home e t = absurd t
away c v u (Lent d p w) e t = (p, w, inl e)
away c v u (Leaving d p w) e t = (p, w, inr e)

nothing_home : (d c v : ℕ) (u : Use) → u ≡ Of c v Home → (p : ℕ) → T (is_at d p (loan_of u)) → ⊥
unfolding is_at loan_of
nothing_home d c v u e p t = subst (λ (x : Use). T (is_at d p (loan_of x))) e t

pub recalled_is_gone : RecalledIsGone
recalled_is_gone start every e since es s n c v r =
    let q = latest every start r in
    let x = splits every start c (Recall v) Done es q.2 since refl in
    let g = in_call every start (just_told every start x.1).0 in
    let t : State = g.began.state in
    let f : ℕ = frame_of t c v in
    let d : ℕ = device_of (loan t c v) in
    let a = away c v (t.what f) (loan t c v) (found_is t c v g.outcome.1) g.outcome.2 in (
      g.began,
      f,
      d,
      a.0,
      a.1,
      (found t c v g.outcome.1).0,
      a.2,
      λ o.
          touch_again every start (Told c (Recall v) Done ∷ es) x.0 x.1 (λ _. true) d f (λ _ _ _. tt) (λ _ _ _ _. tt)
          (inr (nothing_home d c v (x.0.what f) g.outcome.3, inl (tt, tt))) e since q.0 q.1 x.2 q.3 o,
    )

pub closed_is_gone : ClosedIsGone
closed_is_gone start every e since es s n c d r f o =
    let q = latest every start r in
    let x = splits every start c (Close d) Done es q.2 since refl in
    let g = in_call every start (just_told every start x.1).0 in
    touch_again every start (Told c (Close d) Done ∷ es) x.0 x.1 (asked_open d) d f (open_more d) (λ b k l y. left (opens d k) (asked_open d l) y)
    (inr (g.outcome.2 f, inr (g.outcome.1, tt))) e since q.0 q.1 x.2 q.3 o

pub ended_is_gone : EndedIsGone
ended_is_gone start every e since es s n c w r =
    let q = latest every start r in
    let x = splits every start c (End w) Done es q.2 since refl in
    let g = in_call every start (just_told every start x.1).0 in (
      g.began,
      λ d f h o.
          touch_again every start (Told c (End w) Done ∷ es) x.0 x.1 (asked_open d) d f (open_more d) (λ b k l y. left (opens d k) (asked_open d l) y)
          (inr ((g.outcome d h).2 f, inr ((g.outcome d h).1, tt))) e since q.0 q.1 x.2 q.3 o,
    )
