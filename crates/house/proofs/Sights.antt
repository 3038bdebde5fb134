-- What an event that was seen says of the state before it. Assumes nothing.
use Rattle.std.proofs.Common.{◌≡◌, ℕ, Bool, true, false, not, ◌&&◌, ◌||◌, T, eqb, ◌∷◌, sym, ap, subst, ⊎_elim, eqb→eq}
use lib.Dec.{eqb_refl}
use Rattle.house.specs.Event.{Event, Faulted, Poked}
use Rattle.house.specs.Meaning.{Lent, Use, Dev, Shut, Opened, Closing, State, is_of, is_lent, loan_of, open_by, has, Run, Now}
use Rattle.house.specs.Seen.{WrittenWasLent, MissedIsNotLent, NoPage, FaultsAtNothing, PageIsReached, PokesItsOwn}
use Rattle.house.proofs.Shelf.{any_none, neither, not_not, pair, left, right}
use Rattle.house.proofs.MeaningUses.{of_page}
use Rattle.house.proofs.Latest.{latest, to_be_written}
use Rattle.house.proofs.Promises.{from_start}

pub written_was_lent : WrittenWasLent
written_was_lent start every es s n d p f k x r = let b = latest every start r in (b.0, b.1, b.2, to_be_written d p (b.0.what f) b.3.1)

lent_is : (d p : ℕ) (w x : Bool) → (T w → T x) → T (is_lent d p w (Lent d p x))
unfolding is_lent
lent_is d p w x h = pair (eqb d d && eqb p p) (x || not w) (pair (eqb d d) (eqb p p) (eqb_refl d) (eqb_refl p)) (go w h)
  where
    go : (w : Bool) → (T w → T x) → T (x || not w)
    go true g = left x false (g tt)
    go false g = right x true tt

pub missed_is_not_lent : MissedIsNotLent
unfolding loan_of
missed_is_not_lent start every es s n d p writes r =
    let b = latest every start r in
    (b.0, b.1, b.2, λ f c v w l e h. any_none b.0.frames (λ (f : ℕ). is_lent d p writes (loan_of (b.0.what f))) b.3 f l (subst (λ (u : Use). T (is_lent d p writes (loan_of u))) (sym e) (lent_is d p writes w h)))

table_at_no_page : (t : State) (c v : ℕ) → T (not (has t c v)) → NoPage t c v
table_at_no_page t c v h f l b e = any_none t.frames (λ (f : ℕ). is_of c v (t.what f)) h f b (subst (λ (u : Use). T (is_of c v u)) (sym e) (of_page c v l))

pub faults_at_nothing : FaultsAtNothing
faults_at_nothing start every es s n c v r =
    let b = latest every start r in
    let q = neither (has b.0 c v) (not (eqb (b.0.regs c v) 0)) b.3.1 in
    (b.0, subst (λ (m : Now). Run every start es b.0 m) b.3.0 b.2, table_at_no_page b.0 c v q.0, eqb→eq (b.0.regs c v) 0 (not_not (eqb (b.0.regs c v) 0) q.1))

pub page_is_reached : PageIsReached
page_is_reached start h z every es e s n r c v d is =
    ⊎_elim
    (λ (q : e ≡ Faulted c v). let a = faults_at_nothing start every es s n c v (subst (λ (y : Event). Run every start (y ∷ es) s n) q r) in (a.0, a.1, a.2))
    (λ (q : e ≡ Poked c v d). let b = latest every start (subst (λ (y : Event). Run every start (y ∷ es) s n) q r) in
    let G = from_start start h z every es b.0 b.1 b.2 in
    (b.0, subst (λ (m : Now). Run every start es b.0 m) b.3.0 b.2, λ f l lt w. G.alone c v f d lt b.3.1 (subst (λ (u : Use). T (is_of c v u)) (sym w) (of_page c v l))))
    is

open_is : (x : Dev) (c : ℕ) → T (open_by c x) → x ≡ Opened c
unfolding open_by
open_is Shut c t = absurd t
open_is (Opened w) c t = ap Opened (sym (eqb→eq c w t))
open_is (Closing w) c t = absurd t

pub pokes_its_own : PokesItsOwn
pokes_its_own start h z every es s n c v d r =
    let b = latest every start r in
    let G = from_start start h z every es b.0 b.1 b.2 in
    (b.0, subst (λ (m : Now). Run every start es b.0 m) b.3.0 b.2, open_is (b.0.dev d) c (G.shown c v d b.3.1))
