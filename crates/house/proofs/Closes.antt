-- close: when it is refused, and what it makes of the room and the machine.
use Rattle.std.proofs.Common.{◌≡◌, ℕ, suc, ◌<◌, ◌≤◌, Bool, true, false, cond, ◌&&◌, ◌||◌, T, eqb, ltb, List, [], ◌∷◌, sym, refl, ap, ◌∙◌, subst, ⊎_elim, arith, eqb→eq}
use Rattle.std.proofs.lemmas.Bool.{cases_eq, eq-eqb, ne_eqb, lt-ltb, lt-leb, le-leb, false≢true}
use Rattle.ledger.specs.declared.Loan as loans
use Rattle.ledger.specs.declared.Loan.TheVariants as loan
use Rattle.ledger.specs.declared.mapping.Mapping.{Mapping}
use Rattle.ledger.specs.declared.Use as uses
use Rattle.ledger.specs.declared.Use.TheVariants as used
use Rattle.ledger.specs.declared.Place.{Place}
use Rattle.ledger.specs.declared.Place.TheVariants as place
use Rattle.ledger.specs.declared.Device.{Device}
use Rattle.ledger.specs.declared.Device.TheVariants as device
use Rattle.ledger.specs.View as ledger
use Rattle.ledger.specs.Room.{place_of, device_of}
use Rattle.ledger.specs.Uses as tests
use Rattle.ledger.specs.Changes as changes
use Rattle.ledger.specs.Consistent.{Coherent, Consistent}
use Rattle.ledger.proofs.Emptied.{hidden_nowhere}
use Rattle.house.specs.declared.Call.TheVariants.{Close}
use Rattle.house.specs.declared.Answer.{Answer}
use Rattle.house.specs.declared.Answer.TheVariants.{Done, Later, No}
use Rattle.house.specs.declared.refusals.Refusal.{Refusal}
use Rattle.house.specs.declared.refusals.Refusal.TheVariants.{OutOfRange, NoPage, Occupied, WrongLoan, NotYours, Held, NoFrame, NotPermitted, NotBuilt}
use Rattle.house.specs.Event.{Event, Told}
use Rattle.house.specs.Machine.{Hw, Nothing, Steps, Drains, counted, with_mem, put}
use Rattle.house.specs.Meaning
use Rattle.house.specs.Meaning.{State, Use, is_in, owner_is, map_loan, leaving_from, set_use, why, acts, excused, takes_frame, loosens, out, shut, shutting, Now, Quiet, Under, Over}
use Rattle.house.specs.Promise.{can, start_of}
use Rattle.house.specs.Sound.{view_of}
use Rattle.house.specs.Kept.{Kept, shown_meant}
use Rattle.house.specs.Refusals.{number_of, CloseRefused}
use Rattle.house.specs.Serving.{Progress, nothing_cut, Holds, Keeps, Begins}
use Rattle.house.specs.Operations.{Asked1}
use Rattle.house.specs.Unmapping.{Hid}
use Rattle.house.specs.Closures.{closed_as}
use Rattle.house.proofs.Shelf.{is_true, from_true, left, right, in_here, at_one}
use Rattle.house.proofs.Rooms.{registers_ok}
use Rattle.house.proofs.Keeping.{kept_uses}
use Rattle.house.proofs.Shutting.{loosened_close, shutting_state}
use Rattle.house.proofs.PageWords.{words_loans, words_shut}
use Rattle.house.proofs.Steps.{steps_same, drain_split}
use Rattle.house.proofs.Between.{holds_steps, keeps_done, keeps_told, keeps_reason}
use Rattle.house.proofs.Draining.{heard, holds_drain}
use Rattle.house.proofs.Cutting.{cutting, Unlent, cut_root}
use Rattle.house.proofs.Unmapped.{hiding_below, hides_hold, count_most}
use Rattle.house.proofs.Closed.{owner_meant, meant_leaving, loosened_from, closed_left, kept_shut, kept_shutting, kept_unregistered, shut_sound}
use Rattle.house.proofs.Built.{all_built}
use Rattle.house.proofs.Mappings.{mapping}

-- nothing speaks against a close
pub close_allowed : {v : ledger.View} (s : State) → Kept v s → (c d : ℕ) → d < s.devices → tests.owner_is c (v.device d) ≡ true → why s c (Close d) ≡ 0
unfolding why
close_allowed {v} s k c d lt o = rw (lt-leb s.devices d lt, ap (owner_is c) (k.devs_are d) ∙ owner_meant c (v.device d) ∙ o)

-- what was lent to the device is let go
pub loosen_close : {v : ledger.View} {p : Progress} {c d : ℕ} {h : Hw} {es : List Event} → d < h.devices → tests.owner_is c (v.device d) ≡ true → Holds v p (Under c (Close d)) h es → Holds (loosened_from d v) p (Under c (Close d)) h es
unfolding loosens
loosen_close {v} {p} {c} {d} {h} {es} lt o a =
    let s = a.state in
    record {
      fits = a.fits;
      state = set_use (λ f. map_loan (leaving_from d) (s.what f)) s;
      run = Meaning.loosened a.run (all_built _) (close_allowed s a.kept c d (subst (λ (z : ℕ). d < z) (sym a.shape.devices_are) lt) o);
      shape = a.shape;
      drained_are = a.drained_are;
      undrained_are = a.undrained_are;
      kept = kept_uses s a.kept (tests.map_loan (tests.leaving_from d)) (map_loan (leaving_from d)) (meant_leaving d);
      sound = loosened_close s a.sound c d;
      words = words_loans (view_of s) a.words (leaving_from d);
      live = a.live;
      shown = a.shown;
      roots = a.roots;
      severed = a.severed;
      forgot = a.forgot;
    }

pub loosened_unlent : (v : ledger.View) (d : ℕ) → Unlent (loosened_from d v) d
loosened_unlent v d f c u q w = go (v.used f)
  where
    home_lent : loan.Home ≡ loan.Lent (mapping d q w) → ⊥
    home_lent z = let y : ◌≡◌ {A = ℕ} 0 1 = cc in omega arith

    gone : (m : Mapping) → loan.Leaving m ≡ loan.Lent (mapping d q w) → ⊥
    gone m z = let y : ◌≡◌ {A = ℕ} 0 1 = cc in omega arith

    loans_go : (l : loans.Loan) → tests.leaving_from d l ≡ loan.Lent (mapping d q w) → ⊥
    loans_go loan.Home z = home_lent z
    loans_go (loan.Lent m) z = at_one (λ (y : loans.Loan). y ≡ loan.Lent (mapping d q w) → ⊥) d m.device (loan.Leaving m) (loan.Lent m) (λ _. gone m) (λ n y. n (let k : m.device ≡ d = cc in sym k)) z
    loans_go (loan.Leaving m) z = gone m z

    go : (x : uses.Use) → tests.map_loan (tests.leaving_from d) x ≡ used.PageOf c u (loan.Lent (mapping d q w)) → ⊥
    go used.House z = let y : ◌≡◌ {A = ℕ} 0 1 = cc in omega arith
    go (used.TableOf e x) z = let y : ◌≡◌ {A = ℕ} 0 1 = cc in omega arith
    go used.Idle z = let y : ◌≡◌ {A = ℕ} 0 1 = cc in omega arith
    go (used.PageOf a b l) z = loans_go l (cc)

-- a place that was looked at, and one that cannot show the device's registers
looked : (d : ℕ) (t : Bool) (x : Place) → t ≡ tests.shows_registers d x → cond (t || false) Nothing (shown_meant x) ≡ shown_meant (tests.no_registers d x)
unfolding shown_meant
looked d true place.Nothing e = refl
looked d false place.Nothing e = refl
looked d true (place.Page f) e = absurd (false≢true (sym e))
looked d false (place.Page f) e = refl
looked d true (place.Registers f) e = rw (← e)
looked d false (place.Registers f) e = rw (← e)

elsewhere : (d : ℕ) (x : Place) → (x ≡ place.Registers d → ⊥) → shown_meant x ≡ shown_meant (tests.no_registers d x)
unfolding shown_meant
elsewhere d place.Nothing n = refl
elsewhere d (place.Page f) n = refl
elsewhere d (place.Registers f) n = ⊎_elim (λ (q : f ≡ d). absurd (n (ap place.Registers q))) (λ (m : f ≡ d → ⊥). rw (ne_eqb f d m)) (cases_eq f d)

abbrev pub passing : ledger.View → ℕ → ℕ → ℕ → Bool
passing v c d u = tests.shows_registers d (v.place c u)

pub shown_closed : (v : ledger.View) → Coherent v → (c d : ℕ) → tests.owner_is c (v.device d) ≡ true → (a u : ℕ) → u < 1024 →
    cond ((eqb a c && (ltb u 1024 && passing v c d u)) || false) Nothing (shown_meant (v.place a u)) ≡ shown_meant (tests.no_registers d (v.place a u))
shown_closed v co c d o a u lt =
    ⊎_elim (λ (q : a ≡ c). rw (eq-eqb a c q, lt-ltb u 1024 lt) (looked d (passing v c d u) (v.place a u) (ap (λ (z : ℕ). passing v z d u) (sym q))))
    (λ (n : a ≡ c → ⊥). rw (ne_eqb a c n) (elsewhere d (v.place a u) (λ e. n (sym (mine (ap (tests.owner_is c) (sym (registers_ok co a u d e)) ∙ o)))))) (cases_eq a c)
  where
    mine : eqb c a ≡ true → c ≡ a
    mine e = eqb→eq c a (from_true (eqb c a) e)

roots_off : (m : ℕ → ℕ) (v : ledger.View) (d : ℕ) (x : Device) (t : ℕ → ℕ) → ((a : ℕ) → x ≡ device.Opened a → ⊥) → ((e : ℕ) → (e ≡ d → ⊥) → t e ≡ v.top e) →
    ((e a : ℕ) → v.device e ≡ device.Opened a → m e ≡ cond (eqb e d || false) 0 (suc (v.top e))) → (e a : ℕ) → cond (eqb e d) x (v.device e) ≡ device.Opened a → m e ≡ suc (t e)
roots_off m v d x t no_more same r e a =
    at_one (λ (y : Device). y ≡ device.Opened a → m e ≡ suc (t e)) e d x (v.device e) (λ _ q. absurd (no_more a q)) (λ n q. r e a q ∙ (rw (ne_eqb e d n) (ap suc (sym (same e n)))))

abbrev pub answered : Bool → Answer
answered true = Done
answered false = Later

abbrev pub close_progress : ledger.View → ℕ → ℕ → Bool → Progress
close_progress v c d b = heard d b (hiding_below c (passing v c d) 1024 (cutting d (nothing_cut [] [])))

abbrev pub yes_of : Bool → ℕ → List ℕ
yes_of true d = d ∷ []
yes_of false d = []

abbrev pub no_of : Bool → ℕ → List ℕ
no_of true d = []
no_of false d = d ∷ []

-- it takes effect once the IOMMU has answered
pub close_done : (b : Bool) (v : ledger.View) {c d : ℕ} {h : Hw} {es : List Event} → Coherent v → d < h.devices → tests.owner_is c (v.device d) ≡ true → Holds (loosened_from d v) (close_progress v c d b) (Under c (Close d)) h es →
    Holds (closed_as b c d (changes.without_registers d (loosened_from d v))) (nothing_cut (yes_of b d) (no_of b d)) (Over c (Close d) (answered b)) h es
unfolding acts takes_frame excused is_in
close_done true v {c} {d} {h} {es} co lt o a =
    let s = a.state in
    let y : is_in d s.drained ≡ true = ap (is_in d) a.drained_are ∙ is_true (is_in d (d ∷ [])) (in_here d []) in
    let w = close_allowed s a.kept c d (subst (λ (z : ℕ). d < z) (sym a.shape.devices_are) lt) o in
    let here : T (eqb d d || false) = left (eqb d d) false (from_true (eqb d d) (eq-eqb d d refl)) in
    record {
      fits = a.fits;
      state = shut d s;
      run = subst (λ (z : Bool). Meaning.Run can (start_of h) es (cond z (out Done (shut d s)) (out Later (shutting d s))).state (Over c (Close d) (cond z (out Done (shut d s)) (out Later (shutting d s))).answer)) y
          (Meaning.acted 0 a.run (all_built _) w tt (left (is_in d s.drained) (is_in d s.undrained) (from_true (is_in d s.drained) y)));
      shape = a.shape;
      drained_are = a.drained_are;
      undrained_are = a.undrained_are;
      kept = kept_shut (changes.without_registers d (loosened_from d v)) (kept_unregistered (loosened_from d v) a.kept d) d;
      sound = shut_sound (loosened_from d v) s h a.sound d (a.severed d here) (a.forgot d here (in_here d []));
      words = words_shut (view_of s) a.words d;
      live = a.live;
      shown = λ e u x z. a.shown e u x z ∙ shown_closed v co c d o e u z;
      roots = roots_off (h.mem 0) v d device.Shut (λ e. cond (eqb e d) 0 (v.top e)) (λ e q. let z : ◌≡◌ {A = ℕ} 0 1 = cc in omega arith) (λ e n. rw (ne_eqb e d n)) a.roots;
      severed = λ e t. absurd t;
      forgot = λ e t i. absurd t;
    }
close_done false v {c} {d} {h} {es} co lt o a =
    let s = a.state in
    let y : is_in d s.drained ≡ false = ap (is_in d) a.drained_are in
    let n : T (is_in d s.undrained) = subst (λ (z : List ℕ). T (is_in d z)) (sym a.undrained_are) (in_here d []) in
    let w = close_allowed s a.kept c d (subst (λ (z : ℕ). d < z) (sym a.shape.devices_are) lt) o in
    record {
      fits = a.fits;
      state = shutting d s;
      run = subst (λ (z : Bool). Meaning.Run can (start_of h) es (cond z (out Done (shut d s)) (out Later (shutting d s))).state (Over c (Close d) (cond z (out Done (shut d s)) (out Later (shutting d s))).answer)) y
          (Meaning.acted 0 a.run (all_built _) w tt (right (is_in d s.drained) (is_in d s.undrained) n));
      shape = a.shape;
      drained_are = a.drained_are;
      undrained_are = a.undrained_are;
      kept = kept_shutting (changes.without_registers d (loosened_from d v)) (kept_unregistered (loosened_from d v) a.kept d) c d o;
      sound = shutting_state s a.sound d;
      words = words_loans (view_of s) a.words (leaving_from d);
      live = a.live;
      shown = λ e u x z. a.shown e u x z ∙ shown_closed v co c d o e u z;
      roots = roots_off (h.mem 0) v d (device.Closing c) v.top (λ e q. let z : ◌≡◌ {A = ℕ} 0 1 = cc in omega arith) (λ e n. refl) a.roots;
      severed = λ e t. absurd t;
      forgot = λ e t i. absurd t;
    }

-- after a later, a close would still come to that
later_close : {v : ledger.View} {ns : List ℕ} {n : Now} {h : Hw} {es : List Event} (c d : ℕ) (a : Holds v (nothing_cut [] ns) n h es) → T (Meaning.may_tell a.state c (Close d) Later)
unfolding acts is_in Meaning.is_later
later_close c d a = rw a.drained_are tt

-- A close in whole: refused, or done, or to be done later.
pub close_refused : {room : List ℕ} {who d n m : ℕ} {h : Hw} {es : List Event} (e : Refusal) → n ≡ h.frames → m ≡ h.devices → Begins room who (Close d) h es → CloseRefused (ledger.view_of n room) m who d e →
    Keeps room Quiet h (Told who (Close d) (No (number_of e)) ∷ es)
unfolding why
close_refused {room} {who} {d} {n} {m} {h} {es} e q y b r = go e (subst (λ (z : ℕ). CloseRefused (ledger.view_of z room) m who d e) q r)
  where
    s : State
    s = b.holds.state

    go : (e : Refusal) → CloseRefused (ledger.view_of h.frames room) m who d e → Keeps room Quiet h (Told who (Close d) (No (number_of e)) ∷ es)
    go OutOfRange x = keeps_reason OutOfRange b (rw (le-leb s.devices d (omega (arith, b.holds.shape.devices_are))))
    go NoPage x = absurd x
    go Occupied x = absurd x
    go WrongLoan x = absurd x
    go NotYours x =
        keeps_reason NotYours b
        (rw (lt-leb s.devices d (omega (arith, b.holds.shape.devices_are, x.0)), ap (owner_is who) (b.holds.kept.devs_are d) ∙ owner_meant who ((ledger.view_of h.frames room).device d) ∙ x.1))
    go Held x = absurd x
    go NoFrame x = absurd x
    go NotPermitted x = absurd x
    go NotBuilt x = absurd x

-- what it takes to ask for the device to be forgotten
pub record MayForget (room : List ℕ) (who d : ℕ) (k : Hw) : Type 0 where
  pub soon : 0 < k.left
  pub few : d < 32
  pub known : d < k.devices
  pub owner : tests.owner_is who (device_of room d) ≡ true
  pub hidden : (a b : ℕ) → place_of room a b ≡ place.Registers d → ⊥

pub close_may_forget : {room : List ℕ} {who d m : ℕ} {h i k : Hw} {es fs ks : List Event} (n : ℕ) {q : ℕ → Bool} → m ≡ h.devices → 2048 ≤ h.left → Begins room who (Close d) h es → d < m → tests.owner_is who (device_of room d) ≡ true →
    Asked1 h i → Hid who q i fs 1024 k ks → (room1 : List ℕ) → ledger.view_of n room1 ≡ changes.without_registers d (ledger.view_of n room) → MayForget room1 who d k
close_may_forget {room} {who} {d} {m} {h} {i} {k} n {q} y l b lt o x hid room1 v1 =
    let c = count_most q 1024 in
    record {
      soon = omega (arith, x.left, hid.left);
      few = omega (arith, b.holds.fits.few);
      known = omega (arith, x.devices, hid.devices);
      owner = ap (λ (z : ledger.View). tests.owner_is who (z.device d)) v1 ∙ o;
      hidden = hidden_nowhere d (ledger.view_of n room) (ledger.view_of n room1) v1;
    }

drain_alike : {d : ℕ} {b : Bool} {h j : Hw} {es gs : List Event} → Drains d h es b j gs → (j.frames ≡ h.frames) × (j.devices ≡ h.devices)
drain_alike m =
    let q = drain_split m in
    let x = steps_same q.before in
    let y = steps_same q.after in
    (y.frames ∙ x.frames, y.devices ∙ x.devices)

answered_told : {room : List ℕ} {v : ledger.View} {who d n : ℕ} {h : Hw} {es : List Event} (b : Bool) → h.frames ≡ n → Consistent n room → ledger.view_of n room ≡ v →
    Holds v (nothing_cut (yes_of b d) (no_of b d)) (Over who (Close d) (answered b)) h es → Keeps room Quiet h (Told who (Close d) (answered b) ∷ es)
answered_told true q t e a = keeps_done q t e a
answered_told {who = who} {d = d} false q t e a = keeps_told q t e a (later_close who d a)

pub close_told : {room room2 : List ℕ} {who d n m : ℕ} {h i k j : Hw} {es fs ks gs : List Event} (b : Bool) → n ≡ h.frames → m ≡ h.devices → Begins room who (Close d) h es → d < m → tests.owner_is who ((ledger.view_of n room).device d) ≡ true →
    Steps (counted (with_mem (put 0 d 0 h.mem) h)) es i fs → Hid who (passing (ledger.view_of n room) who d) i fs 1024 k ks → Drains d k ks b j gs → (room1 : List ℕ) →
    ledger.view_of n room1 ≡ changes.without_registers d (ledger.view_of n room) → ledger.view_of n room2 ≡ closed_as b who d (ledger.view_of n room1) → Consistent n room2 → Keeps room2 Quiet j (Told who (Close d) (answered b) ∷ gs)
unfolding is_in
close_told {room} {room2} {who} {d} {n} {m} {h} {i} {k} {j} {es} {fs} {ks} {gs} b q y z lt o cut hid x room1 v1 v2 t =
    let v = ledger.view_of n room in
    let a0 : Holds v (nothing_cut [] []) (Under who (Close d)) h es = subst (λ (z : ℕ). Holds (ledger.view_of z room) (nothing_cut [] []) (Under who (Close d)) h es) (sym q) z.holds in
    let co : Coherent v = subst (λ (z : ℕ). Coherent (ledger.view_of z room)) (sym q) z.tidy.coherent in
    let a1 = loosen_close (subst (λ (z : ℕ). d < z) y lt) o a0 in
    let a2 = holds_steps (cut_root d (loosened_unlent v d) tt a1) cut in
    let a3 = holds_drain (hides_hold a2 hid.places) x in
    let s = steps_same cut in
    let r = drain_alike x in
    let a4 = close_done b v co (subst (λ (z : ℕ). d < z) (sym (r.1 ∙ hid.devices ∙ s.devices ∙ sym y)) lt) o a3 in
    answered_told {d = d} b (r.0 ∙ hid.frames ∙ s.frames ∙ sym q) t (v2 ∙ ap (closed_as b who d) v1 ∙ sym (closed_left b who d v)) a4
