-- What an end lets go before the devices have answered.
use Rattle.std.proofs.Common.{◌≡◌, ℕ, zero, suc, ◌<◌, ◌≤◌, Bool, true, false, cond, not, ◌&&◌, ◌||◌, T, eqb, ltb, List, sym, refl, ap, ◌∙◌, subst, ⊎_elim, arith, eqb→eq}
use mathlib.Core.Path.{fun_ext}
use Rattle.std.proofs.lemmas.Bool.{cases_eq, cases_lt, eq-eqb, ne_eqb, lt-ltb, lt-leb, ltb-true, cond_both, false≢true}
use Rattle.ledger.specs.declared.Loan as loans
use Rattle.ledger.specs.declared.Loan.TheVariants as loan
use Rattle.ledger.specs.declared.mapping.Mapping.{Mapping}
use Rattle.ledger.specs.declared.Use as uses
use Rattle.ledger.specs.declared.Use.TheVariants as used
use Rattle.ledger.specs.declared.Place.{Place}
use Rattle.ledger.specs.declared.Place.TheVariants as place
use Rattle.ledger.specs.declared.Device.{Device}
use Rattle.ledger.specs.declared.Device.TheVariants as device
use Rattle.ledger.specs.View as ledger
use Rattle.ledger.specs.Uses as tests
use Rattle.ledger.specs.Changes as changes
use Rattle.ledger.specs.Consistent.{Coherent}
use Rattle.ledger.proofs.Entries.{same_view}
use Rattle.house.specs.declared.Call.TheVariants.{End}
use Rattle.house.specs.Event.{Event}
use Rattle.house.specs.Machine.{Hw}
use Rattle.house.specs.Meaning
use Rattle.house.specs.Meaning.{State, Loan, Home, Lent, Leaving, Use, Of, Dev, is_in, every, any, is_shut, owner_is, map_loan, leaving, device_of, all_drained, set_use, why, loosens, Now, Under}
use Rattle.house.specs.Promise.{can}
use Rattle.house.specs.Sound.{view_of}
use Rattle.house.specs.Kept.{Kept, use_meant, loan_meant, dev_meant}
use Rattle.house.specs.Serving.{Progress, Holds}
use Rattle.house.specs.Closures.{below, closed_loan, closed_use, closed_all, bare, bared, all_in}
use Rattle.house.proofs.Shelf.{both, pair, neither, not_not, not_both, is_true, is_false, from_true, any_some, any_from, same_number}
use Rattle.house.proofs.Rooms.{registers_ok}
use Rattle.house.proofs.Beyond.{beyond}
use Rattle.house.proofs.Keeping.{kept_uses}
use Rattle.house.proofs.Shutting.{loosened_end}
use Rattle.house.proofs.PageWords.{words_loans}
use Rattle.house.proofs.Cutting.{Unlent}
use Rattle.house.proofs.Closed.{same_choice, owner_meant}
use Rattle.house.proofs.ClosedViews.{unshown, unshown_all}
use Rattle.house.proofs.Built.{all_built}
use Rattle.house.proofs.Mappings.{mapping}

pub same_tests : (a b : Bool) → (T a → T b) → (T b → T a) → a ≡ b
same_tests true true f g = refl
same_tests true false f g = absurd (f tt)
same_tests false true f g = absurd (g tt)
same_tests false false f g = refl

-- one number among those below n
pub any_at : (n : ℕ) (p : ℕ → Bool) (x : ℕ) → any n (λ (d : ℕ). p d && eqb d x) ≡ (ltb x n && p x)
any_at n p x =
    same_tests (any n (λ (d : ℕ). p d && eqb d x)) (ltb x n && p x)
    (λ t. let r = any_some n (λ (d : ℕ). p d && eqb d x) t in
    let q = both (p r.0) (eqb r.0 x) r.2 in
    let e = eqb→eq r.0 x q.1 in
    pair (ltb x n) (p x) (from_true (ltb x n) (lt-ltb x n (subst (λ (z : ℕ). z < n) e r.1))) (subst (λ (z : ℕ). T (p z)) e q.0))
    (λ t. let r = both (ltb x n) (p x) t in any_from n (λ (d : ℕ). p d && eqb d x) x (ltb-true x n (is_true (ltb x n) r.0)) (pair (p x) (eqb x x) r.1 (same_number x x refl)))

pub every_from : (n : ℕ) (p : ℕ → Bool) → ((f : ℕ) → f < n → T (p f)) → T (every n p)
unfolding every
every_from zero p h = tt
every_from (suc n) p h = pair (every n p) (p n) (every_from n p (λ f l. h f (omega arith))) (h n (omega arith))

-- whether all have said yes
pub in_all : (n : ℕ) (owns : ℕ → Bool) (ys : List ℕ) → T (all_in n owns ys) → (d : ℕ) → d < n → owns d ≡ true → is_in d ys ≡ true
unfolding all_in
in_all zero owns ys t d l o = absurd (omega arith)
in_all (suc n) owns ys t d l o =
    let r = both (not (owns n) || is_in n ys) (all_in n owns ys) t in
    ⊎_elim (λ (q : d ≡ n). ap (λ (z : ℕ). is_in z ys) q ∙ is_true (is_in n ys) (subst (λ (z : Bool). T (not z || is_in n ys)) (sym (ap owns q) ∙ o) r.0)) (λ (m : d ≡ n → ⊥). in_all n owns ys r.1 d (omega (arith, m)) o) (cases_eq d n)

pub not_all_in : (n : ℕ) (owns : ℕ → Bool) (ys : List ℕ) → T (not (all_in n owns ys)) → (d : ℕ) × (d < n) × (owns d ≡ true) × (is_in d ys ≡ false)
unfolding all_in
not_all_in zero owns ys t = absurd t
not_all_in (suc n) owns ys t =
    ⊎_elim
    (λ (z : T (not (not (owns n) || is_in n ys))). let q = neither (not (owns n)) (is_in n ys) z in (n, omega arith, is_true (owns n) (not_not (owns n) q.0), is_false (is_in n ys) q.1))
    (λ (z : T (not (all_in n owns ys))). let r = not_all_in n owns ys z in (r.0, omega (arith, r.1), r.2, r.3))
    (not_both (not (owns n) || is_in n ys) (all_in n owns ys) t)

-- the loans to a program's devices that are let go
abbrev pub let_go : (ℕ → Bool) → loans.Loan → loans.Loan
let_go owns loan.Home = loan.Home
let_go owns (loan.Lent m) = cond (owns m.device) (loan.Leaving m) (loan.Lent m)
let_go owns (loan.Leaving m) = loan.Leaving m

abbrev pub let_go_all : (ℕ → Bool) → ledger.View → ledger.View
let_go_all owns v = changes.with_uses (tests.map_loan (let_go owns)) v

pub let_go_unlent : (owns : ℕ → Bool) (v : ledger.View) (d : ℕ) → owns d ≡ true → Unlent (let_go_all owns v) d
let_go_unlent owns v d o f c u q w = go (v.used f)
  where
    gone : (m : Mapping) → loan.Leaving m ≡ loan.Lent (mapping d q w) → ⊥
    gone m z = let y : ◌≡◌ {A = ℕ} 0 1 = cc in omega arith

    loans_go : (l : loans.Loan) → let_go owns l ≡ loan.Lent (mapping d q w) → ⊥
    loans_go loan.Home z = let y : ◌≡◌ {A = ℕ} 0 1 = cc in omega arith
    loans_go (loan.Lent m) z =
        cond_both (owns m.device) (loan.Leaving m) (loan.Lent m) (λ y. y ≡ loan.Lent (mapping d q w) → ⊥) (λ _. gone m) (λ n y. let k : m.device ≡ d = cc in false≢true (sym n ∙ (ap owns k ∙ o))) z
    loans_go (loan.Leaving m) z = gone m z

    go : (x : uses.Use) → tests.map_loan (let_go owns) x ≡ used.PageOf c u (loan.Lent (mapping d q w)) → ⊥
    go used.House z = let y : ◌≡◌ {A = ℕ} 0 1 = cc in omega arith
    go (used.TableOf e x) z = let y : ◌≡◌ {A = ℕ} 0 1 = cc in omega arith
    go used.Idle z = let y : ◌≡◌ {A = ℕ} 0 1 = cc in omega arith
    go (used.PageOf a b l) z = loans_go l (cc)

-- that makes no difference once the devices are closed
pub let_go_closed : (owns gone : ℕ → Bool) (w : ℕ) (v : ledger.View) → closed_all owns gone w (bared w (let_go_all owns v)) ≡ closed_all owns gone w (bared w v)
let_go_closed owns gone w v = same_view (closed_all owns gone w (bared w (let_go_all owns v))) (closed_all owns gone w (bared w v)) (fun_ext (λ g. use_same (v.used g))) refl refl refl refl
  where
    loan_same : (l : loans.Loan) → closed_loan owns gone (let_go owns l) ≡ closed_loan owns gone l
    loan_same loan.Home = refl
    loan_same (loan.Lent m) = cond_both (owns m.device) (loan.Leaving m) (loan.Lent m) (λ z. closed_loan owns gone z ≡ closed_loan owns gone (loan.Lent m)) (λ e. rw e) (λ e. refl)
    loan_same (loan.Leaving m) = refl

    use_same : (x : uses.Use) → closed_use owns gone (tests.map_loan (let_go owns) x) ≡ closed_use owns gone x
    use_same used.House = refl
    use_same (used.TableOf d t) = refl
    use_same used.Idle = refl
    use_same (used.PageOf a b l) = ap (used.PageOf a b) (loan_same l)

-- the devices of w are among the machine's
pub below_all : (owns : ℕ → Bool) (m : ℕ) → ((e : ℕ) → owns e ≡ true → e < m) → (e : ℕ) → below m owns e ≡ owns e
below_all owns m known e = go (owns e) refl
  where
    go : (t : Bool) → owns e ≡ t → (ltb e m && owns e) ≡ owns e
    go true o = rw (lt-ltb e m (known e o))
    go false o = rw o (none (ltb e m))
      where
        none : (x : Bool) → (x && false) ≡ false
        none true = refl
        none false = refl

-- registers that w sees are of its own devices
pub bared_is : (v : ledger.View) → Coherent v → (owns : ℕ → Bool) (w : ℕ) → ((e : ℕ) → owns e ≡ tests.owner_is w (v.device e)) → (u : ledger.View) → u.place ≡ v.place → unshown_all owns u ≡ bared w u
bared_is v co owns w own u same =
    same_view (unshown_all owns u) (bared w u) refl (fun_ext (λ a. fun_ext (λ b. go a b (u.place a b) (sym (ap (λ (z : ℕ → ℕ → Place). z a b) same))))) refl refl refl
  where
    turned : (a : ℕ) (x y : Place) → cond (eqb w a) x y ≡ cond (eqb a w) x y
    turned a x y = ⊎_elim (λ (q : a ≡ w). rw (eq-eqb a w q, eq-eqb w a (sym q))) (λ (n : a ≡ w → ⊥). rw (ne_eqb a w n, ne_eqb w a (λ q. n (sym q)))) (cases_eq a w)

    go : (a b : ℕ) (x : Place) → v.place a b ≡ x → unshown owns x ≡ cond (eqb a w) (bare x) x
    go a b place.Nothing e = sym (same_choice (eqb a w) place.Nothing)
    go a b (place.Page f) e = sym (same_choice (eqb a w) (place.Page f))
    go a b (place.Registers d) e = rw (own d ∙ ap (tests.owner_is w) (registers_ok co a b d e)) (turned a place.Nothing (place.Registers d))

-- nothing speaks against an end
pub end_allowed : (s : State) (c w : ℕ) → w < 32 → c ≡ 0 → why s c (End w) ≡ 0
unfolding why
end_allowed s c w lt z = rw (lt-leb 32 w lt, eq-eqb c 0 z)

module _ {v : ledger.View} (owns : ℕ → Bool) (w : ℕ) (own : (e : ℕ) → owns e ≡ tests.owner_is w (v.device e)) where
  -- a device that a program has is one of the machine's
  pub known_device : {p : Progress} {n : Now} {h : Hw} {es : List Event} (a : Holds v p n h es) → (e : ℕ) → owns e ≡ true → e < a.state.devices
  unfolding is_shut dev_meant
  known_device {h = h} a e o =
      ⊎_elim (λ (l : e < a.state.devices). l) (λ (l : a.state.devices ≤ e). absurd (shut_one (v.device e) (subst (λ (x : Dev). T (is_shut x)) (a.kept.devs_are e) (beyond can h a.run e l)) (sym (own e) ∙ o))) (cases_lt e a.state.devices)
    where
      shut_one : (x : Device) → T (is_shut (dev_meant x)) → tests.owner_is w x ≡ true → ⊥
      shut_one device.Shut t q = false≢true q
      shut_one (device.Opened b) t q = t
      shut_one (device.Closing b) t q = t

  pub meant_let_go : (s : State) → Kept v s → ((e : ℕ) → owns e ≡ true → e < s.devices) → (l : loans.Loan) →
      cond (any s.devices (λ (d : ℕ). owner_is w (s.dev d) && eqb d (device_of (loan_meant l)))) (leaving (loan_meant l)) (loan_meant l) ≡ loan_meant (let_go owns l)
  unfolding device_of loan_meant leaving
  meant_let_go s k known loan.Home = same_choice (any s.devices (λ (d : ℕ). owner_is w (s.dev d) && eqb d 0)) Home
  meant_let_go s k known (loan.Leaving m) = same_choice (any s.devices (λ (e : ℕ). owner_is w (s.dev e) && eqb e m.device)) (Leaving m.device m.page m.writes)
  meant_let_go s k known (loan.Lent m) =
      rw (any_at s.devices (λ (e : ℕ). owner_is w (s.dev e)) m.device, ap (owner_is w) (k.devs_are m.device) ∙ owner_meant w (v.device m.device) ∙ sym (own m.device), below_all owns s.devices known m.device)
      (cond_both (owns m.device) (Leaving m.device m.page m.writes) (Lent m.device m.page m.writes) (λ z. z ≡ loan_meant (cond (owns m.device) (loan.Leaving m) (loan.Lent m))) (λ q. rw q) (λ q. rw q))

  -- what was lent to the devices is let go
  pub loosen_end : {p : Progress} {c : ℕ} {h : Hw} {es : List Event} → w < 32 → c ≡ 0 → Holds v p (Under c (End w)) h es → Holds (let_go_all owns v) p (Under c (End w)) h es
  unfolding loosens map_loan use_meant
  loosen_end {p} {c} {h} {es} lt z a =
      let s = a.state in
      let g : Loan → Loan = λ l. cond (any s.devices (λ (d : ℕ). owner_is w (s.dev d) && eqb d (device_of l))) (leaving l) l in
      record {
        fits = a.fits;
        state = set_use (λ f. map_loan g (s.what f)) s;
        run = Meaning.loosened a.run (all_built _) (end_allowed s c w lt z);
        shape = a.shape;
        drained_are = a.drained_are;
        undrained_are = a.undrained_are;
        kept = kept_uses s a.kept (tests.map_loan (let_go owns)) (map_loan g) (use_same s a.kept (known_device a));
        sound = loosened_end s a.sound c w;
        words = words_loans (view_of s) a.words g;
        live = a.live;
        shown = a.shown;
        roots = a.roots;
        severed = a.severed;
        forgot = a.forgot;
      }
    where
      use_same : (s : State) → Kept v s → ((e : ℕ) → owns e ≡ true → e < s.devices) → (x : uses.Use) → map_loan (λ l. cond (any s.devices (λ (d : ℕ). owner_is w (s.dev d) && eqb d (device_of l))) (leaving l) l) (use_meant x) ≡ use_meant (tests.map_loan (let_go owns) x)
      use_same s k known used.House = refl
      use_same s k known (used.TableOf d t) = refl
      use_same s k known used.Idle = refl
      use_same s k known (used.PageOf e b l) = ap (Of e b) (meant_let_go s k known l)

-- what the meaning has drained is what the loop has heard
pub drained_all : (s : State) (w : ℕ) (owns : ℕ → Bool) (ys : List ℕ) → ((e : ℕ) → owner_is w (s.dev e) ≡ owns e) → s.drained ≡ ys → (n : ℕ) → all_drained n w s ≡ all_in n owns ys
unfolding all_drained all_in
drained_all s w owns ys own d zero = refl
drained_all s w owns ys own d (suc n) = rw (drained_all s w owns ys own d n, own n, ap (is_in n) d)
