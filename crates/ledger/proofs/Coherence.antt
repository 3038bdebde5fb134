-- Each change of a coherent view that the operations make leaves it coherent.
use Rattle.std.proofs.Common.{◌≡◌, ℕ, suc, ◌/◌, true, false, cond, ◌&&◌, eqb, sym, refl, ap, ◌∙◌, subst, arith}
use Rattle.std.proofs.lemmas.Bool.{eqb-true, eqb-false, eq-eqb, and_parts, false≢true}
use Rattle.ledger.specs.declared.Loan.{Loan}
use Rattle.ledger.specs.declared.Loan.TheVariants.{Home, Lent, Leaving}
use Rattle.ledger.specs.declared.mapping.Mapping.{Mapping}
use Rattle.ledger.specs.declared.Which.{Which}
use Rattle.ledger.specs.declared.Which.TheVariants.{Upper, Lower}
use Rattle.ledger.specs.declared.Use.{Use}
use Rattle.ledger.specs.declared.Use.TheVariants.{House, TableOf, Idle, PageOf}
use Rattle.ledger.specs.declared.Place.{Place}
use Rattle.ledger.specs.declared.Place.TheVariants.{Nothing, Page, Registers}
use Rattle.ledger.specs.declared.Device.{Device}
use Rattle.ledger.specs.declared.Device.TheVariants.{Shut, Opened, Closing}
use Rattle.ledger.specs.Uses.{is_page, loan_in, is_at, is_with, is_lent, is_shut, owner_is}
use Rattle.ledger.specs.View.{View, with_use, with_place, with_device, with_top, with_low}
use Rattle.ledger.specs.Changes.{new_page, freed_page, with_loan, opened_by, lower_at}
use Rattle.ledger.specs.Consistent.{LoanOk, FrameOk, PlaceOk, DeviceOk, Coherent}
use Rattle.ledger.proofs.Moves.{at1, at2, same1, other1, same2, is_page_of, page_is, not_shut, loan_moves, frame_moves, place_moves, device_moves, once_moves}

-- One frame's use is changed, to one that is lent to nobody: nothing that refers to other frames is touched.
module _ (s : View) (K : Coherent s) (f : ℕ) (x : Use) where
  use_house : (s.used f ≡ House → ⊥) → cond (eqb 0 f) x (s.used 0) ≡ House
  use_house n = at1 (λ u. u ≡ House) 0 f x (s.used 0) (λ e. absurd (n (ap s.used (sym e) ∙ K.house))) (λ _. K.house)

  -- a table that stands elsewhere
  use_table : (g : ℕ) (t : Use) → s.used g ≡ t → (s.used f ≡ t → ⊥) → cond (eqb g f) x (s.used g) ≡ t
  use_table g t e n = at1 (λ u. u ≡ t) g f x (s.used g) (λ q. absurd (n (ap s.used (sym q) ∙ e))) (λ _. e)

  use_page : (c v g : ℕ) → is_page c v (s.used g) ≡ true → (is_page c v (s.used f) ≡ true → is_page c v x ≡ true) → is_page c v (cond (eqb g f) x (s.used g)) ≡ true
  use_page c v g e n = at1 (λ u. is_page c v u ≡ true) g f x (s.used g) (λ q. n (ap (λ (k : ℕ). is_page c v (s.used k)) (sym q) ∙ e)) (λ _. e)

  use_once : ((d p : ℕ) → is_at d p (loan_in x) ≡ true → ⊥) → (g d p : ℕ) → is_at d p (loan_in (cond (eqb g f) x (s.used g))) ≡ true → is_at d p (loan_in (s.used g)) ≡ true
  use_once n g d p = at1 (λ u. is_at d p (loan_in u) ≡ true → is_at d p (loan_in (s.used g)) ≡ true) g f x (s.used g) (λ q h. absurd (n d p h)) (λ _ h. h)

nobody : (d p : ℕ) → is_at d p Home ≡ true → ⊥
nobody d p e = false≢true e

idle_house : Idle ≡ House → ⊥
idle_house e = let z : ◌≡◌ {A = ℕ} 0 1 = cc in omega arith

page_house : {c v : ℕ} {l : Loan} → PageOf c v l ≡ House → ⊥
page_house e = let z : ◌≡◌ {A = ℕ} 0 1 = cc in omega arith

table_house : {d : ℕ} {w : Which} → TableOf d w ≡ House → ⊥
table_house e = let z : ◌≡◌ {A = ℕ} 0 1 = cc in omega arith

idle_table : {d : ℕ} {w : Which} → Idle ≡ TableOf d w → ⊥
idle_table e = let z : ◌≡◌ {A = ℕ} 0 1 = cc in omega arith

page_table : {c v d : ℕ} {l : Loan} {w : Which} → PageOf c v l ≡ TableOf d w → ⊥
page_table e = let z : ◌≡◌ {A = ℕ} 0 1 = cc in omega arith

nothing_page : {f : ℕ} → Nothing ≡ Page f → ⊥
nothing_page e = let z : ◌≡◌ {A = ℕ} 0 1 = cc in omega arith

shut_opened : {c : ℕ} → Shut ≡ Opened c → ⊥
shut_opened e = let z : ◌≡◌ {A = ℕ} 0 1 = cc in omega arith

-- what was shown elsewhere is still shown
elsewhere : (place : ℕ → ℕ → Place) (c v : ℕ) (x : Place) (g a b : ℕ) → (place c v ≡ Page g → ⊥) → place a b ≡ Page g → cond (eqb a c && eqb b v) x (place a b) ≡ Page g
elsewhere place c v x g a b n e = at2 (λ p. p ≡ Page g) a c b v x (place a b) (λ p q. absurd (n (cc))) (λ _. e)

module _ (s : View) (K : Coherent s) (c v f : ℕ) where
  -- an idle frame becomes the page of a place that showed nothing
  pub new_page_coherent : s.used f ≡ Idle → s.place c v ≡ Nothing → Coherent (new_page c v f s)
  new_page_coherent idle free =
      record {
        house = use_house s K f page (λ e. idle_house (sym idle ∙ e));
        frames = λ g. at1 (FrameOk place' s.device s.top s.low g) g f page (s.used g) (λ e. (same2 c v (Page f) (s.place c v) ∙ ap Page (sym e), tt))
            (λ _. frame_moves s.device s.device s.low s.low s.place place' s.top s.top g (s.used g) (λ a b e. elsewhere s.place c v (Page f) g a b (λ k. nothing_page (sym free ∙ k)) e)
            (λ d _ a b. (a, b)) (λ d i _ a. a) (λ a b l _ h. h) (K.frames g));
        places = λ a b. at2 (PlaceOk used' s.device a b) a c b v (Page f) (s.place a b) (λ p q. rw (same1 f page (s.used f), p, q) (page_is c v Home))
            (λ _. place_moves s.used used' s.device s.device a b (s.place a b) (λ g _ h. use_page s K f page a b g h (λ k. absurd (false≢true (ap (is_page a b) (sym idle) ∙ k)))) (λ d _ h. h) (K.places a b));
        devices = λ d. device_moves s.used used' s.top s.top s.low s.low d (s.device d) (λ _ h. use_table s K f page (s.top d) (TableOf d Upper) h (λ e. idle_table (sym idle ∙ e))) (λ _ h. h) (K.devices d);
        lows = λ d i g e. use_table s K f page g (TableOf d (Lower i)) (K.lows d i g e) (λ k. idle_table (sym idle ∙ k));
        once = once_moves s.used used' (use_once s K f page nobody) K.once;
      }
    where
      page : Use
      page = PageOf c v Home

      used' : ℕ → Use
      used' g = cond (eqb g f) (PageOf c v Home) (s.used g)

      place' : ℕ → ℕ → Place
      place' a b = cond (eqb a c && eqb b v) (Page f) (s.place a b)

  -- a page becomes idle, and its place shows nothing
  pub freed_page_coherent : (l : Loan) → s.used f ≡ PageOf c v l → Coherent (freed_page c v f s)
  freed_page_coherent l is =
      record {
        house = use_house s K f Idle (λ e. page_house (sym is ∙ e));
        frames = λ g. at1 (FrameOk place' s.device s.top s.low g) g f Idle (s.used g) (λ e. tt)
            (λ ne. frame_moves s.device s.device s.low s.low s.place place' s.top s.top g (s.used g) (λ a b e. elsewhere s.place c v Nothing g a b (λ k. ne (other g k)) e) (λ d _ a b. (a, b))
            (λ d i _ a. a) (λ a b k _ h. h) (K.frames g));
        places = λ a b. at2 (PlaceOk used' s.device a b) a c b v Nothing (s.place a b) (λ p q. tt)
            (λ ne. place_moves s.used used' s.device s.device a b (s.place a b) (λ g _ h. use_page s K f Idle a b g h (λ k. absurd (ne (whose a b k)))) (λ d _ h. h) (K.places a b));
        devices = λ d. device_moves s.used used' s.top s.top s.low s.low d (s.device d) (λ _ h. use_table s K f Idle (s.top d) (TableOf d Upper) h (λ e. page_table (sym is ∙ e))) (λ _ h. h) (K.devices d);
        lows = λ d i g e. use_table s K f Idle g (TableOf d (Lower i)) (K.lows d i g e) (λ k. page_table (sym is ∙ k));
        once = once_moves s.used used' (use_once s K f Idle nobody) K.once;
      }
    where
      used' : ℕ → Use
      used' g = cond (eqb g f) Idle (s.used g)

      place' : ℕ → ℕ → Place
      place' a b = cond (eqb a c && eqb b v) Nothing (s.place a b)

      shown : s.place c v ≡ Page f
      shown = (subst (FrameOk s.place s.device s.top s.low f) is (K.frames f)).0

      other : (g : ℕ) → s.place c v ≡ Page g → g ≡ f
      other g k = let e : Page g ≡ Page f = sym k ∙ shown in cc

      whose : (a b : ℕ) → is_page a b (s.used f) ≡ true → (a ≡ c) × (b ≡ v)
      whose a b k = let h = is_page_of a b (s.used f) k in let e : PageOf a b h.0 ≡ PageOf c v l = sym h.1 ∙ is in (cc, cc)

  -- a page has another loan, at a page of a device where no other frame is
  pub loan_coherent : (k l : Loan) → s.used f ≡ PageOf c v k → LoanOk s.device s.low c l → ((g d p : ℕ) → is_at d p l ≡ true → is_at d p (loan_in (s.used g)) ≡ true → g ≡ f) → Coherent (with_loan c v f l s)
  loan_coherent k l is ok alone =
      record {
        house = use_house s K f page (λ e. page_house (sym is ∙ e));
        frames = λ g. at1 (FrameOk s.place s.device s.top s.low g) g f page (s.used g) (λ e. (shown ∙ ap Page (sym e), ok)) (λ _. K.frames g);
        places = λ a b. place_moves s.used used' s.device s.device a b (s.place a b) (λ g _ h. use_page s K f page a b g h (λ t. ap (is_page a b) (sym is) ∙ t)) (λ d _ h. h) (K.places a b);
        devices = λ d. device_moves s.used used' s.top s.top s.low s.low d (s.device d) (λ _ h. use_table s K f page (s.top d) (TableOf d Upper) h (λ e. page_table (sym is ∙ e))) (λ _ h. h) (K.devices d);
        lows = λ d i g e. use_table s K f page g (TableOf d (Lower i)) (K.lows d i g e) (λ t. page_table (sym is ∙ t));
        once = λ g h d p. at1 (λ u. is_at d p (loan_in u) ≡ true → is_at d p (loan_in (used' h)) ≡ true → g ≡ h) g f page (s.used g)
            (λ e a. at1 (λ u. is_at d p (loan_in u) ≡ true → g ≡ h) h f page (s.used h) (λ q _. e ∙ sym q) (λ _ b. e ∙ sym (alone h d p a b)))
            (λ _ a. at1 (λ u. is_at d p (loan_in u) ≡ true → g ≡ h) h f page (s.used h) (λ q b. alone g d p b a ∙ sym q) (λ _ b. K.once g h d p a b));
      }
    where
      page : Use
      page = PageOf c v l

      used' : ℕ → Use
      used' g = cond (eqb g f) (PageOf c v l) (s.used g)

      shown : s.place c v ≡ Page f
      shown = (subst (FrameOk s.place s.device s.top s.low f) is (K.frames f)).0

  -- a place that showed nothing shows the registers of a device that its program has open
  pub registers_coherent : (d : ℕ) → s.place c v ≡ Nothing → s.device d ≡ Opened c → Coherent (with_place c v (Registers d) s)
  registers_coherent d free has =
      record {
        house = K.house;
        frames = λ g. frame_moves s.device s.device s.low s.low s.place place' s.top s.top g (s.used g) (λ a b e. elsewhere s.place c v (Registers d) g a b (λ k. nothing_page (sym free ∙ k)) e) (λ e _ a b. (a, b))
            (λ e i _ a. a) (λ a b l _ h. h) (K.frames g);
        places = λ a b. at2 (PlaceOk s.used s.device a b) a c b v (Registers d) (s.place a b) (λ p q. has ∙ ap Opened (sym p)) (λ _. K.places a b);
        devices = K.devices;
        lows = K.lows;
        once = K.once;
      }
    where
      place' : ℕ → ℕ → Place
      place' a b = cond (eqb a c && eqb b v) (Registers d) (s.place a b)

  -- a place that shows no page shows nothing
  pub hidden_coherent : ((g : ℕ) → s.place c v ≡ Page g → ⊥) → Coherent (with_place c v Nothing s)
  hidden_coherent none =
      record {
        house = K.house;
        frames = λ g. frame_moves s.device s.device s.low s.low s.place place' s.top s.top g (s.used g) (λ a b e. elsewhere s.place c v Nothing g a b (none g) e) (λ e _ a b. (a, b)) (λ e i _ a. a)
            (λ a b l _ h. h) (K.frames g);
        places = λ a b. at2 (PlaceOk s.used s.device a b) a c b v Nothing (s.place a b) (λ p q. tt) (λ _. K.places a b);
        devices = K.devices;
        lows = K.lows;
        once = K.once;
      }
    where
      place' : ℕ → ℕ → Place
      place' a b = cond (eqb a c && eqb b v) Nothing (s.place a b)

module _ (s : View) (K : Coherent s) (d f : ℕ) where
  -- an idle frame becomes the upper table of a device, which a program opens
  pub opened_coherent : (c : ℕ) → s.used f ≡ Idle → s.device d ≡ Shut → Coherent (opened_by c d f s)
  opened_coherent c idle shut =
      record {
        house = use_house s K f table (λ e. idle_house (sym idle ∙ e));
        frames = λ g. at1 (FrameOk s.place dev' top' s.low g) g f table (s.used g) (λ e. (same1 d f (s.top d) ∙ sym e, ap is_shut (same1 d (Opened c) (s.device d))))
            (λ _. frame_moves s.device dev' s.low s.low s.place s.place s.top top' g (s.used g) (λ a b e. e)
            (λ e _ a b. let ne : e ≡ d → ⊥ = λ q. false≢true (sym b ∙ ap (λ (k : ℕ). is_shut (s.device k)) q ∙ ap is_shut shut) in (other1 e d f (s.top e) ne ∙ a, ap is_shut (other1 e d (Opened c) (s.device e) ne) ∙ b)) (λ e i _ a. a)
            (λ a b l _. loan_moves s.device dev' s.low s.low a l (λ m _ h. stays m.device a h) (λ m _ h. owned m.device a h) (λ e p _ h. h)) (K.frames g));
        places = λ a b. place_moves s.used used' s.device dev' a b (s.place a b) (λ g _ h. use_page s K f table a b g h (λ k. absurd (false≢true (ap (is_page a b) (sym idle) ∙ k)))) (λ e _ h. stays e a h) (K.places a b);
        devices = λ e. at1 (DeviceOk used' top' s.low e) e d (Opened c) (s.device e) (λ q. rw (q, same1 d f (s.top d), same1 f table (s.used f)))
            (λ ne. device_moves s.used used' s.top top' s.low s.low e (s.device e) (λ _ h. rw (other1 e d f (s.top e) ne) (use_table s K f table (s.top e) (TableOf e Upper) h (λ k. idle_table (sym idle ∙ k)))) (λ _ h. h) (K.devices e));
        lows = λ e i g q. use_table s K f table g (TableOf e (Lower i)) (K.lows e i g q) (λ k. idle_table (sym idle ∙ k));
        once = once_moves s.used used' (use_once s K f table nobody) K.once;
      }
    where
      table : Use
      table = TableOf d Upper

      used' : ℕ → Use
      used' g = cond (eqb g f) (TableOf d Upper) (s.used g)

      dev' : ℕ → Device
      dev' e = cond (eqb e d) (Opened c) (s.device e)

      top' : ℕ → ℕ
      top' e = cond (eqb e d) f (s.top e)

      stays : (e a : ℕ) → s.device e ≡ Opened a → dev' e ≡ Opened a
      stays e a h = at1 (λ z. z ≡ Opened a) e d (Opened c) (s.device e) (λ q. absurd (shut_opened (sym shut ∙ ap s.device (sym q) ∙ h))) (λ _. h)

      owned : (e a : ℕ) → owner_is a (s.device e) ≡ true → owner_is a (dev' e) ≡ true
      owned e a h = at1 (λ z. owner_is a z ≡ true) e d (Opened c) (s.device e) (λ q. absurd (false≢true (ap (owner_is a) (sym shut) ∙ ap (λ (k : ℕ). owner_is a (s.device k)) (sym q) ∙ h))) (λ _. h)

-- a device that is not shut has an upper table
pub upper : (s : View) (K : Coherent s) (d : ℕ) → is_shut (s.device d) ≡ false → s.used (s.top d) ≡ TableOf d Upper
upper s K d = go (s.device d) (K.devices d)
  where
    go : (x : Device) → DeviceOk s.used s.top s.low d x → is_shut x ≡ false → s.used (s.top d) ≡ TableOf d Upper
    go Shut h e = absurd (false≢true (sym e))
    go (Opened c) h e = h
    go (Closing c) h e = h

pub at_with : (d e p : ℕ) (l : Loan) → e ≡ d → is_at e p l ≡ true → is_with d l ≡ true
at_with d e p Home q h = absurd (false≢true h)
at_with d e p (Lent m) q h = let t = (and_parts (eqb e m.device) (eqb p m.page) h).0 in rw q at t
at_with d e p (Leaving m) q h = let t = (and_parts (eqb e m.device) (eqb p m.page) h).0 in rw q at t

pub one_owner : (a c : ℕ) (x : Device) → owner_is a x ≡ true → owner_is c x ≡ true → a ≡ c
one_owner a c Shut p q = absurd (false≢true p)
one_owner a c (Opened w) p q = eqb-true a w p ∙ sym (eqb-true c w q)
one_owner a c (Closing w) p q = eqb-true a w p ∙ sym (eqb-true c w q)

-- the lower tables, after one is noted at slot i of d or no longer
module _ (s : View) (K : Coherent s) (d i f : ℕ) where
  -- an idle frame becomes the lower table of a slot that had none
  pub lower_coherent : s.used f ≡ Idle → is_shut (s.device d) ≡ false → s.low d i ≡ 0 → Coherent (lower_at d i f s)
  lower_coherent idle live none =
      record {
        house = use_house s K f table (λ e. idle_house (sym idle ∙ e));
        frames = λ g. at1 (FrameOk s.place s.device s.top low' g) g f table (s.used g) (λ e. same2 d i (suc f) (s.low d i) ∙ ap suc (sym e))
            (λ _. frame_moves s.device s.device s.low low' s.place s.place s.top s.top g (s.used g) (λ a b e. e) (λ e _ a b. (a, b)) (λ e j _ h. noted e j g h)
            (λ a b l _. loan_moves s.device s.device s.low low' a l (λ _ _ h. h) (λ _ _ h. h) (λ e p _ h. there e (p / 512) h)) (K.frames g));
        places = λ a b. place_moves s.used used' s.device s.device a b (s.place a b) (λ g _ h. use_page s K f table a b g h (λ k. absurd (false≢true (ap (is_page a b) (sym idle) ∙ k)))) (λ e _ h. h) (K.places a b);
        devices = λ e. device_moves s.used used' s.top s.top s.low low' e (s.device e) (λ _ h. use_table s K f table (s.top e) (TableOf e Upper) h (λ k. idle_table (sym idle ∙ k)))
            (λ shut h j. at2 (λ z. z ≡ 0) e d j i (suc f) (s.low e j) (λ p q. absurd (false≢true (sym live ∙ ap (λ (k : ℕ). is_shut (s.device k)) (sym p) ∙ ap is_shut shut))) (λ _. h j)) (K.devices e);
        lows = λ e j g. at2 (λ z. z ≡ suc g → used' g ≡ TableOf e (Lower j)) e d j i (suc f) (s.low e j)
            (λ p q h. let r : g ≡ f = omega arith in rw (r, same1 f table (s.used f), p, q)) (λ _ h. use_table s K f table g (TableOf e (Lower j)) (K.lows e j g h) (λ k. idle_table (sym idle ∙ k)));
        once = once_moves s.used used' (use_once s K f table nobody) K.once;
      }
    where
      table : Use
      table = TableOf d (Lower i)

      used' : ℕ → Use
      used' g = cond (eqb g f) (TableOf d (Lower i)) (s.used g)

      low' : ℕ → ℕ → ℕ
      low' e j = cond (eqb e d && eqb j i) (suc f) (s.low e j)

      noted : (e j g : ℕ) → s.low e j ≡ suc g → low' e j ≡ suc g
      noted e j g h = at2 (λ z. z ≡ suc g) e d j i (suc f) (s.low e j) (λ p q. let z : s.low e j ≡ 0 = cc in absurd (omega arith)) (λ _. h)

      there : (e j : ℕ) → (s.low e j ≡ 0 → ⊥) → low' e j ≡ 0 → ⊥
      there e j h = at2 (λ z. z ≡ 0 → ⊥) e d j i (suc f) (s.low e j) (λ p q z. omega arith) (λ _. h)

  -- a lower table of a device to which nothing is lent becomes idle, and its slot has none
  pub dropped_coherent : s.low d i ≡ suc f → ((g : ℕ) → is_with d (loan_in (s.used g)) ≡ false) → Coherent (with_low d i 0 (with_use f Idle s))
  dropped_coherent noted free =
      record {
        house = use_house s K f Idle (λ e. table_house (sym is ∙ e));
        frames = λ g. at1 (FrameOk s.place s.device s.top low' g) g f Idle (s.used g) (λ e. tt)
            (λ ne. frame_moves s.device s.device s.low low' s.place s.place s.top s.top g (s.used g) (λ a b e. e) (λ e _ a b. (a, b)) (λ e j _ h. still e j g ne h)
            (λ a b l k. loan_moves s.device s.device s.low low' a l (λ _ _ h. h) (λ _ _ h. h) (λ e p at h. there e p l (p / 512) (subst (λ u. is_with d (loan_in u) ≡ false) k (free g)) at h)) (K.frames g));
        places = λ a b. place_moves s.used used' s.device s.device a b (s.place a b) (λ g _ h. use_page s K f Idle a b g h (λ k. absurd (false≢true (ap (is_page a b) (sym is) ∙ k)))) (λ e _ h. h) (K.places a b);
        devices = λ e. device_moves s.used used' s.top s.top s.low low' e (s.device e) (λ _ h. use_table s K f Idle (s.top e) (TableOf e Upper) h (λ k. lower_upper (sym is ∙ k)))
            (λ shut h j. at2 (λ z. z ≡ 0) e d j i 0 (s.low e j) (λ p q. refl) (λ _. h j)) (K.devices e);
        lows = λ e j g. at2 (λ z. z ≡ suc g → used' g ≡ TableOf e (Lower j)) e d j i 0 (s.low e j) (λ p q h. absurd (omega arith))
            (λ ne h. use_table s K f Idle g (TableOf e (Lower j)) (K.lows e j g h) (λ k. ne (which e j (sym is ∙ k))));
        once = once_moves s.used used' (use_once s K f Idle nobody) K.once;
      }
    where
      is : s.used f ≡ TableOf d (Lower i)
      is = K.lows d i f noted

      used' : ℕ → Use
      used' g = cond (eqb g f) Idle (s.used g)

      low' : ℕ → ℕ → ℕ
      low' e j = cond (eqb e d && eqb j i) 0 (s.low e j)

      still : (e j g : ℕ) → (g ≡ f → ⊥) → s.low e j ≡ suc g → low' e j ≡ suc g
      still e j g ne h = at2 (λ z. z ≡ suc g) e d j i 0 (s.low e j) (λ p q. let z : s.low e j ≡ suc f = cc in absurd (ne (omega arith))) (λ _. h)

      there : (e p : ℕ) (l : Loan) (j : ℕ) → is_with d l ≡ false → is_at e p l ≡ true → (s.low e j ≡ 0 → ⊥) → low' e j ≡ 0 → ⊥
      there e p l j a b h = at2 (λ z. z ≡ 0 → ⊥) e d j i 0 (s.low e j) (λ q _ _. false≢true (sym a ∙ at_with d e p l q b)) (λ _. h)

      lower_upper : {e : ℕ} → TableOf d (Lower i) ≡ TableOf e Upper → ⊥
      lower_upper e = let z : ◌≡◌ {A = ℕ} 0 1 = cc in omega arith

      which : (e j : ℕ) → TableOf d (Lower i) ≡ TableOf e (Lower j) → (e ≡ d) × (j ≡ i)
      which e j q = (cc, cc)

module _ (s : View) (K : Coherent s) (d : ℕ) where
  -- a device's program has it closing: nothing is lent to it, and its registers are shown nowhere
  pub closing_coherent : (c : ℕ) → owner_is c (s.device d) ≡ true → ((g : ℕ) → is_lent d (loan_in (s.used g)) ≡ false) → ((a b : ℕ) → s.place a b ≡ Registers d → ⊥) → Coherent (with_device d (Closing c) s)
  closing_coherent c owner free hidden =
      record {
        house = K.house;
        frames = λ g. frame_moves s.device dev' s.low s.low s.place s.place s.top s.top g (s.used g) (λ a b e. e)
            (λ e _ a b. (a, at1 (λ z. is_shut z ≡ false) e d (Closing c) (s.device e) (λ _. refl) (λ _. b))) (λ e j _ h. h)
            (λ a b l k. loan_moves s.device dev' s.low s.low a l (λ m q h. lent m a (subst (λ u. is_lent d (loan_in u) ≡ false) (k ∙ ap (PageOf a b) q) (free g)) h) (λ m _ h. owned m.device a h) (λ e p _ h. h)) (K.frames g);
        places = λ a b. place_moves s.used s.used s.device dev' a b (s.place a b) (λ g _ h. h)
            (λ e q h. at1 (λ z. z ≡ Opened a) e d (Closing c) (s.device e) (λ r. absurd (hidden a b (q ∙ ap Registers r))) (λ _. h)) (K.places a b);
        devices = λ e. at1 (DeviceOk s.used s.top s.low e) e d (Closing c) (s.device e) (λ q. rw q (upper s K d (not_shut c (s.device d) owner))) (λ _. K.devices e);
        lows = K.lows;
        once = K.once;
      }
    where
      dev' : ℕ → Device
      dev' e = cond (eqb e d) (Closing c) (s.device e)

      lent : (m : Mapping) (a : ℕ) → is_lent d (Lent m) ≡ false → s.device m.device ≡ Opened a → dev' m.device ≡ Opened a
      lent m a q h = at1 (λ z. z ≡ Opened a) m.device d (Closing c) (s.device m.device) (λ r. absurd (eqb-false d m.device q (sym r))) (λ _. h)

      owned : (e a : ℕ) → owner_is a (s.device e) ≡ true → owner_is a (dev' e) ≡ true
      owned e a h = at1 (λ z. owner_is a z ≡ true) e d (Closing c) (s.device e) (λ q. eq-eqb a c (one_owner a c (s.device d) (ap (λ (k : ℕ). owner_is a (s.device k)) (sym q) ∙ h) owner)) (λ _. h)

  -- a device without lower tables, to which nothing is lent and whose registers are shown nowhere, is shut, and its upper table is idle
  pub shut_coherent : is_shut (s.device d) ≡ false → ((i : ℕ) → s.low d i ≡ 0) → ((g : ℕ) → is_with d (loan_in (s.used g)) ≡ false) → ((a b : ℕ) → s.place a b ≡ Registers d → ⊥) →
      Coherent (with_device d Shut (with_top d 0 (with_use (s.top d) Idle s)))
  shut_coherent live none free hidden =
      record {
        house = use_house s K f Idle (λ e. table_house (sym is ∙ e));
        frames = λ g. at1 (FrameOk s.place dev' top' s.low g) g f Idle (s.used g) (λ e. tt)
            (λ ne. frame_moves s.device dev' s.low s.low s.place s.place s.top top' g (s.used g) (λ a b e. e)
            (λ e _ a b. let no : e ≡ d → ⊥ = λ q. ne (sym a ∙ ap s.top q) in (other1 e d 0 (s.top e) no ∙ a, ap is_shut (other1 e d Shut (s.device e) no) ∙ b)) (λ e j _ h. h)
            (λ a b l k. loan_moves s.device dev' s.low s.low a l (λ m q h. lent m.device a (λ r. false≢true (sym (subst (λ u. is_with d (loan_in u) ≡ false) (k ∙ ap (PageOf a b) q) (free g)) ∙ eq-eqb d m.device (sym r))) h)
            (λ m q h. owned m.device a (λ r. false≢true (sym (subst (λ u. is_with d (loan_in u) ≡ false) (k ∙ ap (PageOf a b) q) (free g)) ∙ eq-eqb d m.device (sym r))) h) (λ e p _ h. h)) (K.frames g));
        places = λ a b. place_moves s.used used' s.device dev' a b (s.place a b) (λ g _ h. use_page s K f Idle a b g h (λ k. absurd (false≢true (ap (is_page a b) (sym is) ∙ k))))
            (λ e q h. lent e a (λ r. hidden a b (q ∙ ap Registers r)) h) (K.places a b);
        devices = λ e. at1 (DeviceOk used' top' s.low e) e d Shut (s.device e) (λ q j. ap (λ (k : ℕ). s.low k j) q ∙ none j)
            (λ ne. device_moves s.used used' s.top top' s.low s.low e (s.device e) (λ _ h. rw (other1 e d 0 (s.top e) ne) (use_table s K f Idle (s.top e) (TableOf e Upper) h (λ k. ne (whose e (sym is ∙ k))))) (λ _ h. h)
            (K.devices e));
        lows = λ e j g h. use_table s K f Idle g (TableOf e (Lower j)) (K.lows e j g h) (λ k. upper_lower (sym is ∙ k));
        once = once_moves s.used used' (use_once s K f Idle nobody) K.once;
      }
    where
      f : ℕ
      f = s.top d

      is : s.used (s.top d) ≡ TableOf d Upper
      is = upper s K d live

      used' : ℕ → Use
      used' g = cond (eqb g (s.top d)) Idle (s.used g)

      dev' : ℕ → Device
      dev' e = cond (eqb e d) Shut (s.device e)

      top' : ℕ → ℕ
      top' e = cond (eqb e d) 0 (s.top e)

      lent : (e a : ℕ) → (e ≡ d → ⊥) → s.device e ≡ Opened a → dev' e ≡ Opened a
      lent e a ne h = other1 e d Shut (s.device e) ne ∙ h

      owned : (e a : ℕ) → (e ≡ d → ⊥) → owner_is a (s.device e) ≡ true → owner_is a (dev' e) ≡ true
      owned e a ne h = ap (owner_is a) (other1 e d Shut (s.device e) ne) ∙ h

      whose : (e : ℕ) → TableOf d Upper ≡ TableOf e Upper → e ≡ d
      whose e q = cc

      upper_lower : {e j : ℕ} → TableOf d Upper ≡ TableOf e (Lower j) → ⊥
      upper_lower e = let z : ◌≡◌ {A = ℕ} 0 1 = cc in omega arith
