-- Reading the meaning off a room: what a consistent room says of a place, a frame, a device is what the meaning has there.
use Rattle.std.proofs.Common.{◌≡◌, ℕ, suc, ◌<◌, ◌≤◌, Bool, true, false, not, T, eqb, ltb, List, sym, refl, ap, ◌∙◌, subst, ⊎_elim, arith, eqb→eq}
use Rattle.std.proofs.lemmas.Bool.{false≢true, and_parts, eqb-true, lt-ltb, le-ltb, cases_lt, cond-false}
use Rattle.ledger.specs.declared.Loan as loans
use Rattle.ledger.specs.declared.Loan.TheVariants as lending
use Rattle.ledger.specs.declared.Use as uses
use Rattle.ledger.specs.declared.Use.TheVariants as used
use Rattle.ledger.specs.declared.Place.{Place}
use Rattle.ledger.specs.declared.Place.TheVariants as place
use Rattle.ledger.specs.declared.Device.TheVariants as device
use Rattle.ledger.specs.View as ledger
use Rattle.ledger.specs.Uses as tests
use Rattle.ledger.specs.Consistent.{Coherent, PlaceOk, FrameOk, LoanOk}
use Rattle.house.specs.Machine.{Shown}
use Rattle.house.specs.Meaning.{Loan, Use, Of, State, is_of, is_idle, any, has, frame_of, taken, full, idle, loan, loan_of, is_home}
use Rattle.house.specs.Sound.{ShownAt, ShowsIn, ShowsRight}
use Rattle.house.specs.Kept.{Kept, use_meant, loan_meant, regs_meant, shown_meant}
use Rattle.house.proofs.Shelf.{both, pair, from_true, same_number, any_from, none_any, first_passes, nor, left, right, other_number}

-- every frame past the last is idle
abbrev pub Inside : ℕ → ledger.View → Type 0
Inside n v = (f : ℕ) → n ≤ f → v.used f ≡ used.Idle

pub inside_room : (n : ℕ) (r : List ℕ) → Inside n (ledger.view_of n r)
inside_room n r f le = cond-false (ltb f n) _ _ (le-ltb f n le)

not_not_from : (b : Bool) → T b → T (not (not b))
not_not_from true t = tt
not_not_from false t = t

pub idle_use : (x : uses.Use) → T (is_idle (use_meant x)) → x ≡ used.Idle
unfolding is_idle use_meant
idle_use used.House t = absurd t
idle_use (used.TableOf d w) t = absurd t
idle_use used.Idle t = refl
idle_use (used.PageOf a b l) t = absurd t

module _ {v : ledger.View} (co : Coherent v) where
  -- a place that shows a page shows one that is there, and the page is shown there
  pub page_there : (c u f : ℕ) → v.place c u ≡ place.Page f → (l : loans.Loan) × (v.used f ≡ used.PageOf c u l)
  page_there c u f e = go (v.used f) (subst (λ (x : Place). PlaceOk v.used v.device c u x) e (co.places c u))
    where
      go : (x : uses.Use) → tests.is_page c u x ≡ true → (l : loans.Loan) × (x ≡ used.PageOf c u l)
      go used.House q = absurd (false≢true q)
      go (used.TableOf d t) q = absurd (false≢true q)
      go used.Idle q = absurd (false≢true q)
      go (used.PageOf a b l) q =
          let r = and_parts (eqb a c) (eqb b u) q in
          let x = eqb-true a c r.0 in
          let y = eqb-true b u r.1 in
          (l, cc)

  pub page_shown : (c u f : ℕ) (l : loans.Loan) → v.used f ≡ used.PageOf c u l → v.place c u ≡ place.Page f
  page_shown c u f l e = (subst (λ (x : uses.Use). FrameOk v.place v.device v.top v.low f x) e (co.frames f)).0

  pub loan_ok : (c u f : ℕ) (l : loans.Loan) → v.used f ≡ used.PageOf c u l → LoanOk v.device v.low c l
  loan_ok c u f l e = (subst (λ (x : uses.Use). FrameOk v.place v.device v.top v.low f x) e (co.frames f)).1

  -- the registers of a device are shown only to a program that has it open
  pub registers_ok : (c u d : ℕ) → v.place c u ≡ place.Registers d → v.device d ≡ device.Opened c
  registers_ok c u d e = subst (λ (x : Place). PlaceOk v.used v.device c u x) e (co.places c u)

abbrev loans_home : loans.Loan
loans_home = lending.Home

away_meant : (l : loans.Loan) → (l ≡ loans_home → ⊥) → T (not (is_home (loan_meant l)))
unfolding is_home loan_meant
away_meant lending.Home n = absurd (n refl)
away_meant (lending.Lent m) n = tt
away_meant (lending.Leaving m) n = tt

-- a use that is a page of c at u, in the words of the meaning
pub of_page : (c u : ℕ) (x : uses.Use) → T (is_of c u (use_meant x)) → (l : loans.Loan) × (x ≡ used.PageOf c u l)
unfolding is_of use_meant
of_page c u used.House t = absurd t
of_page c u (used.TableOf d w) t = absurd t
of_page c u used.Idle t = absurd t
of_page c u (used.PageOf a b l) t =
    let r = both (eqb c a) (eqb u b) t in
    let x = eqb→eq c a r.0 in
    let y = eqb→eq u b r.1 in
    (l, cc)

pub page_of : (c u : ℕ) (l : loans.Loan) → T (is_of c u (use_meant (used.PageOf c u l)))
unfolding is_of use_meant
page_of c u l = pair (eqb c c) (eqb u u) (same_number c c refl) (same_number u u refl)

module _ {v : ledger.View} (s : State) (co : Coherent v) (k : Kept v s) (inside : Inside s.frames v) where
  -- a frame that is in use is one of the machine's
  pub below : (f : ℕ) → (v.used f ≡ used.Idle → ⊥) → f < s.frames
  below f ne = ⊎_elim (λ (l : f < s.frames). l) (λ (g : s.frames ≤ f). absurd (ne (inside f g))) (cases_lt f s.frames)

  pub page_below : (c u f : ℕ) (l : loans.Loan) → v.used f ≡ used.PageOf c u l → f < s.frames
  page_below c u f l e = below f (λ i. let z : ◌≡◌ {A = ℕ} 0 1 = cc in omega arith)

  -- what a place that shows a page says
  pub page_has : (c u f : ℕ) → v.place c u ≡ place.Page f → T (has s c u) × (frame_of s c u ≡ f) × (f < s.frames) × T (is_of c u (s.what f))
  page_has c u f e =
      let p = page_there co c u f e in
      let lt = page_below c u f p.0 p.1 in
      let is : T (is_of c u (s.what f)) = subst (λ (x : Use). T (is_of c u x)) (sym (k.uses_are f)) (subst (λ (x : uses.Use). T (is_of c u (use_meant x))) (sym p.1) (page_of c u p.0)) in
      let h = any_from s.frames (λ (g : ℕ). is_of c u (s.what g)) f lt is in
      let q = first_passes s.frames (λ (g : ℕ). is_of c u (s.what g)) h in
      let o = of_page c u (v.used (frame_of s c u)) (subst (λ (x : Use). T (is_of c u x)) (k.uses_are (frame_of s c u)) q.1) in
      let w = page_shown co c u (frame_of s c u) o.0 o.1 in
      (h, cc, lt, is)

  pub page_use : (c u f : ℕ) (l : loans.Loan) → v.used f ≡ used.PageOf c u l → s.what f ≡ Of c u (loan_meant l)
  unfolding use_meant
  page_use c u f l e = k.uses_are f ∙ ap use_meant e

  -- the loan of the page at a place
  pub loan_there : (c u f : ℕ) → v.place c u ≡ place.Page f → loan s c u ≡ loan_meant (tests.loan_in (v.used f))
  unfolding loan_of
  loan_there c u f e =
      let p = page_there co c u f e in
      let q = page_has c u f e in
      let w = page_use c u f p.0 p.1 in
      ap (λ (g : ℕ). loan_of (s.what g)) q.1 ∙ (ap loan_of w ∙ ap (λ (x : uses.Use). loan_meant (tests.loan_in x)) (sym p.1))

  pub loan_away : (c u f : ℕ) → v.place c u ≡ place.Page f → (tests.loan_in (v.used f) ≡ loans_home → ⊥) → T (not (is_home (loan s c u)))
  loan_away c u f e away = subst (λ (x : Loan). T (not (is_home x))) (sym (loan_there c u f e)) (away_meant (tests.loan_in (v.used f)) away)

  pub table_at_no_page : (c u : ℕ) → ((f : ℕ) → v.place c u ≡ place.Page f → ⊥) → T (not (has s c u))
  table_at_no_page c u none = none_any s.frames (λ (g : ℕ). is_of c u (s.what g)) (λ f lt t.
      let o = of_page c u (v.used f) (subst (λ (x : Use). T (is_of c u x)) (k.uses_are f) t) in
      none f (page_shown co c u f o.0 o.1))

  pub vacant : (c u : ℕ) → v.place c u ≡ place.Nothing → T (not (taken s c u))
  unfolding regs_meant
  vacant c u e =
      nor (has s c u) (not (eqb (s.regs c u) 0)) (table_at_no_page c u (λ f p. let z : ◌≡◌ {A = ℕ} 0 1 = cc in omega arith))
      (let r : s.regs c u ≡ 0 = k.regs_are c u ∙ ap regs_meant e in rw r tt)

  pub registers_taken : (c u d : ℕ) → v.place c u ≡ place.Registers d → (s.regs c u ≡ suc d) × T (taken s c u)
  unfolding regs_meant
  registers_taken c u d e =
      let r : s.regs c u ≡ suc d = k.regs_are c u ∙ ap regs_meant e in
      (r, right (has s c u) (not (eqb (s.regs c u) 0)) (rw r (other_number (suc d) 0 (λ e. omega arith))))

  -- something is there: a page or registers
  pub occupied : (c u : ℕ) → (v.place c u ≡ place.Nothing → ⊥) → T (taken s c u)
  occupied c u some = go (v.place c u) refl
    where
      go : (p : Place) → v.place c u ≡ p → T (taken s c u)
      go place.Nothing q = absurd (some q)
      go (place.Page f) q = left (has s c u) (not (eqb (s.regs c u) 0)) (page_has c u f q).0
      go (place.Registers d) q = (registers_taken c u d q).1

  -- what each place shows is what the meaning has there
  pub shown_right : (space : ℕ → ℕ → Shown) → ((c u : ℕ) → c < 32 → u < 1024 → space c u ≡ shown_meant (v.place c u)) → ShownAt s space
  unfolding ShowsIn shown_meant
  shown_right space e c u x y = subst (λ (z : Shown). ShowsRight s c u z) (sym (e c u x y)) (go (v.place c u) refl)
    where
      go : (p : Place) → v.place c u ≡ p → ShowsRight s c u (shown_meant p)
      go place.Nothing q = vacant c u q
      go (place.Page f) q = page_has c u f q
      go (place.Registers d) q = (registers_taken c u d q).0

  -- an idle frame of the room is idle, and where it has none, the machine is full
  pub idle_frame : (f : ℕ) → f < s.frames → v.used f ≡ used.Idle → T (idle s f) × T (not (full s))
  unfolding use_meant is_idle
  idle_frame f lt e =
      let i : T (is_idle (s.what f)) = subst (λ (x : Use). T (is_idle x)) (sym (k.uses_are f ∙ ap use_meant e)) tt in (
        pair (ltb f s.frames) (is_idle (s.what f)) (from_true (ltb f s.frames) (lt-ltb f s.frames lt)) i,
        not_not_from (any s.frames (λ (g : ℕ). is_idle (s.what g))) (any_from s.frames (λ (g : ℕ). is_idle (s.what g)) f lt i),
      )

  pub no_idle : ((f : ℕ) → f < s.frames → v.used f ≡ used.Idle → ⊥) → T (full s)
  no_idle none = none_any s.frames (λ (g : ℕ). is_idle (s.what g)) (λ f lt t. none f lt (idle_use (v.used f) (subst (λ (x : Use). T (is_idle x)) (k.uses_are f) t)))
