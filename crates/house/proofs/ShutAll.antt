-- After a device is shut, and after all of a program are: what is gone, and what stays. Assumes nothing.
use Rattle.std.proofs.Common.{◌≡◌, ℕ, zero, suc, ◌<◌, not, ◌||◌, T, eqb, sym, refl, subst, ⊎_elim, arith, T_not}
use Rattle.std.proofs.lemmas.Bool.{cases_eq}
use Rattle.house.specs.Meaning.{Loan, Home, Lent, Leaving, Use, House, TableOf, Idle, Of, Dev, Shut, State, loan_of, is_at, owner_is, is_shut, home_from, map_loan, no_table, closing, shut, shutting, shut_all, is_in, all_drained}
use Rattle.house.proofs.Shelf.{both, either, neither, not_not, not_both, choose, here}
use Rattle.house.proofs.MeaningUses.{shut_unowned, closing_owner, shut_is, closing_shut, shut_fewer, shutting_fewer, through_shut_all}

-- nothing is found at any page of a device
abbrev pub NothingAt : ℕ → (ℕ → Use) → Type 0
NothingAt d what = (f p : ℕ) → T (is_at d p (loan_of (what f))) → ⊥

-- after a device is shut it is shut, and nothing is found there; that lasts while others are
pub shut_nothing : (d : ℕ) (u : Use) (p : ℕ) → T (is_at d p (loan_of (no_table d (map_loan (home_from d) u)))) → ⊥
unfolding no_table map_loan home_from loan_of is_at
shut_nothing d House p = λ t. t
shut_nothing d (TableOf e) p = choose (λ (u : Use). T (is_at d p (loan_of u)) → ⊥) (eqb d e) Idle (TableOf e) (λ _ t. t) (λ _ t. t)
shut_nothing d Idle p = λ t. t
shut_nothing d (Of c v Home) p = λ t. t
shut_nothing d (Of c v (Lent e q w)) p = choose (λ (l : Loan). T (is_at d p l) → ⊥) (eqb d e) Home (Lent e q w) (λ _ t. t) (λ n t. T_not (eqb d e) n (both (eqb d e) (eqb p q) t).0)
shut_nothing d (Of c v (Leaving e q w)) p = choose (λ (l : Loan). T (is_at d p l) → ⊥) (eqb d e) Home (Leaving e q w) (λ _ t. t) (λ n t. T_not (eqb d e) n (both (eqb d e) (eqb p q) t).0)

abbrev pub Gone : ℕ → State → Type 0
Gone d s = T (is_shut (s.dev d)) × NothingAt d s.what

pub gone_shut : (d : ℕ) (s : State) → Gone d (shut d s)
gone_shut d s = (subst (λ (x : Dev). T (is_shut x)) (sym (here d Shut (s.dev d))) shut_is, λ f p t. shut_nothing d (s.what f) p t)

pub still_gone_shut : (d e : ℕ) (s : State) → Gone d s → Gone d (shut e s)
still_gone_shut d e s g = (choose (λ (x : Dev). T (is_shut x)) (eqb d e) Shut (s.dev d) (λ _. shut_is) (λ _. g.0), λ f p t. g.1 f p ((shut_fewer e (s.what f)).lent d p t))

pub still_gone_shutting : (d e : ℕ) (s : State) → Gone d s → Gone d (shutting e s)
still_gone_shutting d e s g = (choose (λ (x : Dev). T (is_shut x)) (eqb d e) (closing (s.dev d)) (s.dev d) (λ _. closing_shut (s.dev d) g.0) (λ _. g.0), λ f p t. g.1 f p ((shutting_fewer e (s.what f)).lent d p t))

pub drained_of_all : (n w : ℕ) (s : State) → T (all_drained n w s) → (d : ℕ) → d < n → T (owner_is w (s.dev d)) → T (is_in d s.drained)
unfolding all_drained
drained_of_all zero w s t d l o = absurd (omega arith)
drained_of_all (suc n) w s t d l o =
    let r = both (not (owner_is w (s.dev n)) || is_in n s.drained) (all_drained n w s) t in
    ⊎_elim
    (λ (e : d ≡ n). subst (λ (x : ℕ). T (is_in x s.drained)) (sym e) (⊎_elim (λ (z : T (not (owner_is w (s.dev n)))). absurd (T_not (owner_is w (s.dev n)) z (subst (λ (x : ℕ). T (owner_is w (s.dev x))) e o))) (λ (z : T (is_in n s.drained)). z) (either (not (owner_is w (s.dev n))) (is_in n s.drained) r.0)))
    (λ (e : d ≡ n → ⊥). drained_of_all n w s r.1 d (omega arith) o) (cases_eq d n)

pub not_all_drained : (n w : ℕ) (s : State) → T (not (all_drained n w s)) → (d : ℕ) × (d < n) × T (owner_is w (s.dev d)) × T (not (is_in d s.drained))
unfolding all_drained
not_all_drained zero w s t = absurd t
not_all_drained (suc n) w s t =
    ⊎_elim
    (λ (z : T (not (not (owner_is w (s.dev n)) || is_in n s.drained))). let q = neither (not (owner_is w (s.dev n))) (is_in n s.drained) z in (n, omega arith, not_not (owner_is w (s.dev n)) q.0, q.1))
    (λ (z : T (not (all_drained n w s))). let q = not_all_drained n w s z in (q.0, omega (arith, q.1), q.2, q.3))
    (not_both (not (owner_is w (s.dev n)) || is_in n s.drained) (all_drained n w s) t)

-- every device of a program that was drained is gone when all are shut
pub shut_all_gone : (n w : ℕ) (s : State) (d : ℕ) → d < n → T (owner_is w (s.dev d)) → T (is_in d s.drained) → Gone d (shut_all n w s)
unfolding shut_all
shut_all_gone zero w s d l o i = absurd (omega arith)
shut_all_gone (suc n) w s d l o i =
    let A : State = shut_all n w s in
    ⊎_elim
    (λ (e : d ≡ n).
    choose (Gone d) (owner_is w (s.dev n)) _ A
    (λ _. choose (Gone d) (is_in n s.drained) (shut n A) (shutting n A) (λ _. subst (λ (x : ℕ). Gone d (shut x A)) e (gone_shut d A)) (λ z. absurd (T_not (is_in n s.drained) z (subst (λ (x : ℕ). T (is_in x s.drained)) e i))))
    (λ z. absurd (T_not (owner_is w (s.dev n)) z (subst (λ (x : ℕ). T (owner_is w (s.dev x))) e o))))
    (λ (e : d ≡ n → ⊥).
    let g : Gone d A = shut_all_gone n w s d (omega arith) o i in
    choose (Gone d) (owner_is w (s.dev n)) _ A (λ _. choose (Gone d) (is_in n s.drained) (shut n A) (shutting n A) (λ _. still_gone_shut d n A g) (λ _. still_gone_shutting d n A g)) (λ _. g))
    (cases_eq d n)

-- what shutting all leaves: frames and devices are as many, drains as they were, and nobody has a device that they had not
pub record Kept (w : ℕ) (s t : State) : Type 0 where
  pub devices : t.devices ≡ s.devices
  pub drained : t.drained ≡ s.drained
  pub undrained : t.undrained ≡ s.undrained
  pub owners : (d c : ℕ) → T (owner_is c (t.dev d)) → T (owner_is c (s.dev d))

pub shut_all_kept : (n w : ℕ) (s : State) → Kept w s (shut_all n w s)
shut_all_kept n w s =
    through_shut_all (Kept w s)
    (λ d t k. record { devices = k.devices; drained = k.drained; undrained = k.undrained; owners = λ e c. choose (λ (x : Dev). T (owner_is c x) → T (owner_is c (s.dev e))) (eqb e d) Shut (t.dev e) (λ _ o. absurd (shut_unowned Shut c shut_is o)) (λ _ o. k.owners e c o) })
    (λ d t k. record { devices = k.devices; drained = k.drained; undrained = k.undrained; owners = λ e c. choose (λ (x : Dev). T (owner_is c x) → T (owner_is c (s.dev e))) (eqb e d) (closing (t.dev e)) (t.dev e) (λ _ o. k.owners e c (closing_owner (t.dev e) c o)) (λ _ o. k.owners e c o) })
    n w s (record { devices = refl; drained = refl; undrained = refl; owners = λ d c o. o })
