-- end: when it is refused, and what it makes of the room and the machine.
use Rattle.std.proofs.Common.{◌≡◌, ℕ, suc, ◌<◌, ◌≤◌, Bool, true, false, cond, not, ◌&&◌, ◌||◌, T, eqb, ltb, List, [], ◌∷◌, sym, refl, ap, ◌∙◌, subst, ⊎_elim, arith, T_not}
use mathlib.Core.Path.{fun_ext}
use lib.Dec.{not_T}
use Rattle.std.proofs.lemmas.Bool.{eq-eqb, ne_eqb, lt-leb, le-leb, cond_both}
use Rattle.ledger.specs.declared.Loan as loans
use Rattle.ledger.specs.declared.Loan.TheVariants as loan
use Rattle.ledger.specs.declared.Use as uses
use Rattle.ledger.specs.declared.Use.TheVariants as used
use Rattle.ledger.specs.declared.Place.TheVariants as place
use Rattle.ledger.specs.declared.Device.TheVariants as device
use Rattle.ledger.specs.View as ledger
use Rattle.ledger.specs.Room as entries
use Rattle.ledger.specs.Uses as tests
use Rattle.ledger.specs.Changes as changes
use Rattle.ledger.specs.Consistent.{Coherent, Consistent, LoanOk}
use Rattle.house.specs.declared.Call.TheVariants.{End}
use Rattle.house.specs.declared.Answer.TheVariants.{Done, Later, No}
use Rattle.house.specs.declared.refusals.Refusal.{Refusal}
use Rattle.house.specs.declared.refusals.Refusal.TheVariants.{OutOfRange, NoPage, Occupied, WrongLoan, NotYours, Held, NoFrame, NotPermitted, NotBuilt}
use Rattle.house.specs.Event.{Event, Told}
use Rattle.house.specs.Machine.{Hw, Nothing}
use Rattle.house.specs.Meaning
use Rattle.house.specs.Meaning.{State, Loan, Home, Lent, Leaving, Use, Of, Dev, is_in, owner_is, device_of, not_of, shut_all, all_drained, set_use, why, acts, excused, takes_frame, out, Now, Quiet, Under, Over}
use Rattle.house.specs.Promise.{can, start_of}
use Rattle.house.specs.Sound.{view_of, Shape}
use Rattle.house.specs.Kept.{use_meant, loan_meant, dev_meant, shown_meant}
use Rattle.house.specs.Refusals.{number_of, EndRefused}
use Rattle.house.specs.Serving.{nothing_cut, Holds, Keeps, Begins}
use Rattle.house.specs.Unmapping.{Hid, count}
use Rattle.house.specs.Closures.{below, closed_loan, closed_use, closed_all, shows_some, bare, bared, all_in, ClosedSoFar}
use Rattle.house.proofs.Shelf.{decide, left, is_true, is_false, from_true, from_false, same_number}
use Rattle.house.proofs.Rooms.{loan_ok}
use Rattle.house.proofs.MeaningUses.{through_shut_all}
use Rattle.house.proofs.ShutAll.{drained_of_all}
use Rattle.house.proofs.Uses.{pageless, pages_gone}
use Rattle.house.proofs.PageWords.{words_gone}
use Rattle.house.proofs.Between.{keeps_done, keeps_told, keeps_reason}
use Rattle.house.proofs.Unmapped.{hides_hold, count_most}
use Rattle.house.proofs.Bared.{bare_nowhere, apart, some_or_any}
use Rattle.house.proofs.Closed.{owner_meant}
use Rattle.house.proofs.ClosedViews.{unshown_all}
use Rattle.house.proofs.ClosedTurns.{cut_so_far, closes_hold, all_asked}
use Rattle.house.proofs.Settled.{Settled, closed_to, settle_all}
use Rattle.house.proofs.Built.{all_built}
use Rattle.house.proofs.LettingGo.{in_all, bared_is, below_all, drained_all, end_allowed, every_from, known_device, let_go_closed, let_go_unlent, let_go_all, loosen_end, not_all_in}
use Rattle.house.proofs.EndedPlaces.{hid_first, hid_then, meant_not_of, registers_bared, shown_bared, shown_ended}

-- All devices of w have been asked.
module _ {v : ledger.View} (co : Coherent v) (owns : ℕ → Bool) (w : ℕ) (own : (e : ℕ) → owns e ≡ tests.owner_is w (v.device e)) {k : ℕ} {hid : ℕ → ℕ → Bool} {ys ns : List ℕ} {c : ℕ} {h : Hw} {es : List Event}
    (a : Holds (let_go_all owns v) (cut_so_far owns k hid ys ns) (Under c (End w)) h es) (at_k : k ≡ h.devices) where
  known : (e : ℕ) → owns e ≡ true → e < a.state.devices
  known e o = known_device owns w own a e o

  cut_there : (e : ℕ) → owns e ≡ true → T (below k owns e)
  cut_there e o = from_true (below k owns e) (below_all owns k (λ d q. let l = known d q in omega (arith, a.shape.devices_are)) e ∙ o)

  owner_there : (e : ℕ) → owner_is w (a.state.dev e) ≡ owns e
  owner_there e = ap (owner_is w) (a.kept.devs_are e) ∙ owner_meant w (v.device e) ∙ sym (own e)

  said_same : ◌≡◌ {A = ℕ → Bool} (λ e. is_in e a.state.drained) (λ e. is_in e ys)
  said_same = ap (λ (l : List ℕ). λ (e : ℕ). is_in e l) a.drained_are

  all_closed : closed_to owns (λ e. is_in e a.state.drained) w a.state.devices (let_go_all owns v) ≡ closed_all owns (λ e. is_in e ys) w (bared w v)
  all_closed =
      ap (λ (q : ℕ → Bool). closed_all q (λ e. is_in e a.state.drained) w (unshown_all q (let_go_all owns v))) (fun_ext (below_all owns a.state.devices known)) ∙
      (ap (closed_all owns (λ e. is_in e a.state.drained) w) (bared_is v co owns w own (let_go_all owns v) refl) ∙
      (ap (λ (q : ℕ → Bool). closed_all owns q w (bared w (let_go_all owns v))) said_same ∙ let_go_closed owns (λ e. is_in e ys) w v))

  settled : Settled (closed_all owns (λ e. is_in e ys) w (bared w v)) (shut_all a.state.devices w a.state) h
  settled =
      subst (λ (z : ledger.View). Settled z (shut_all a.state.devices w a.state) h) all_closed
      (settle_all (let_go_all owns v) a.state h w owns own (record { kept = a.kept; sound = a.sound; words = a.words }) a.state.devices (λ e l o. a.severed e (cut_there e o))
      (λ e l o i. a.forgot e (cut_there e o) (subst (λ (z : List ℕ). T (is_in e z)) a.drained_are i)) a.state.devices (omega arith))

  shape_there : Shape (shut_all a.state.devices w a.state) h
  shape_there = through_shut_all (λ (z : State). Shape z h) (λ d z p. p) (λ d z p. p) a.state.devices w a.state a.shape

  drained_there : (shut_all a.state.devices w a.state).drained ≡ ys
  drained_there = through_shut_all (λ (z : State). z.drained ≡ ys) (λ d z p. p) (λ d z p. p) a.state.devices w a.state a.drained_are

  undrained_there : (shut_all a.state.devices w a.state).undrained ≡ ns
  undrained_there = through_shut_all (λ (z : State). z.undrained ≡ ns) (λ d z p. p) (λ d z p. p) a.state.devices w a.state a.undrained_are

  roots_there : (e b : ℕ) → cond (owns e) (cond (is_in e ys) device.Shut (device.Closing w)) (v.device e) ≡ device.Opened b → h.mem 0 e ≡ suc (cond (owns e && is_in e ys) 0 (v.top e))
  roots_there e b =
      cond_both (owns e) (cond (is_in e ys) device.Shut (device.Closing w)) (v.device e) (λ z. z ≡ device.Opened b → h.mem 0 e ≡ suc (cond (owns e && is_in e ys) 0 (v.top e)))
      (λ o q. absurd (cond_both (is_in e ys) device.Shut (device.Closing w) (λ z. z ≡ device.Opened b → ⊥) (λ _ y. let z : ◌≡◌ {A = ℕ} 0 1 = cc in omega arith) (λ _ y. let z : ◌≡◌ {A = ℕ} 0 1 = cc in omega arith) q))
      (λ o q. a.roots e b q ∙ rw (o, and_false (ltb e k)))
    where
      and_false : (x : Bool) → (x && false) ≡ false
      and_false true = refl
      and_false false = refl

  all_drained_is : all_drained a.state.devices w a.state ≡ all_in k owns ys
  all_drained_is = drained_all a.state w owns ys owner_there a.drained_are a.state.devices ∙ ap (λ (z : ℕ). all_in z owns ys) (a.shape.devices_are ∙ sym at_k)

  module _ (asked : (e : ℕ) → e < k → owns e ≡ true → T (is_in e ys || is_in e ns)) (lt : w < 32) (zero_asks : c ≡ 0) where
    excused_there : T (excused a.state c (End w))
    unfolding excused
    excused_there = every_from a.state.devices (λ (n : ℕ). not (owner_is w (a.state.dev n)) || is_in n a.state.drained || is_in n a.state.undrained) (λ e l.
        ⊎_elim (λ (t : T (owner_is w (a.state.dev e))). rw (a.drained_are, a.undrained_are) (heard e (asked e (omega (arith, a.shape.devices_are)) (sym (owner_there e) ∙ is_true (owner_is w (a.state.dev e)) t))))
        (λ (t : T (not (owner_is w (a.state.dev e)))). left (not (owner_is w (a.state.dev e)) || is_in e a.state.drained) (is_in e a.state.undrained) (left (not (owner_is w (a.state.dev e))) (is_in e a.state.drained) t)) (decide (owner_is w (a.state.dev e))))
      where
        assoc : (x y z : Bool) → T (y || z) → T (x || y || z)
        assoc true y z t = tt
        assoc false y z t = t

        heard : (e : ℕ) → T (is_in e ys || is_in e ns) → T (not (owner_is w (a.state.dev e)) || is_in e ys || is_in e ns)
        heard e t = assoc (not (owner_is w (a.state.dev e))) (is_in e ys) (is_in e ns) t

    -- one has not been forgotten
    pub end_later : all_in k owns ys ≡ false → ((b u : ℕ) → hid b u ≡ hid_first v w b u) → Holds (closed_all owns (λ e. is_in e ys) w (bared w v)) (nothing_cut ys ns) (Over c (End w) Later) h es
    unfolding acts takes_frame
    end_later no_yet first =
        let x = shut_all a.state.devices w a.state in
        record {
          fits = a.fits;
          state = x;
          run = subst (λ (z : Bool). Meaning.Run can (start_of h) es (cond z (out Done (set_use (λ g. not_of w (x.what g)) x)) (out Later x)).state (Over c (End w) (cond z (out Done (set_use (λ g. not_of w (x.what g)) x)) (out Later x)).answer)) (all_drained_is ∙ no_yet)
              (Meaning.acted 0 a.run (all_built _) (end_allowed a.state c w lt zero_asks) tt excused_there);
          shape = shape_there;
          drained_are = drained_there;
          undrained_are = undrained_there;
          kept = settled.kept;
          sound = settled.sound;
          words = settled.words;
          live = a.live;
          shown = λ b u p q. a.shown b u p q ∙ (ap (λ (z : Bool). cond z Nothing (shown_meant (v.place b u))) (first b u) ∙ shown_bared v w b u q);
          roots = roots_there;
          severed = λ e t. absurd t;
          forgot = λ e t i. absurd t;
        }

    -- all have
    module _ (every_yes : all_in k owns ys ≡ true) where
      page_home : (g u : ℕ) (l : Loan) → (shut_all a.state.devices w a.state).what g ≡ Of w u l → l ≡ Home
      unfolding use_meant loan_meant
      page_home g u l e = go (v.used g) refl (sym (settled.kept.uses_are g) ∙ e)
        where
          gone : (d : ℕ) → owns d ≡ true → is_in d ys ≡ true
          gone d o = in_all k owns ys (from_true (all_in k owns ys) every_yes) d (let q = known d o in omega (arith, a.shape.devices_are)) o

          mine : (d b : ℕ) → b ≡ w → tests.owner_is b (v.device d) ≡ true → owns d ≡ true
          mine d b q o = own d ∙ (ap (λ (z : ℕ). tests.owner_is z (v.device d)) (sym q) ∙ o)

          loan_home : (b : ℕ) (x : loans.Loan) → b ≡ w → LoanOk v.device v.low b x → loan_meant (closed_loan owns (λ d. is_in d ys) x) ≡ Home
          loan_home b loan.Home q ok = refl
          loan_home b (loan.Lent m) q ok = let o = mine m.device b q (ap (tests.owner_is b) ok.0 ∙ eq-eqb b b refl) in rw (o, gone m.device o)
          loan_home b (loan.Leaving m) q ok = let o = mine m.device b q ok.0 in rw (o, gone m.device o)

          go : (x : uses.Use) → v.used g ≡ x → use_meant (closed_use owns (λ d. is_in d ys) x) ≡ Of w u l → l ≡ Home
          go used.House q z = absurd (subst pageless z tt)
          go (used.TableOf d t) q z = absurd (subst pageless z (cond_both (owns d && is_in d ys) used.Idle (used.TableOf d t) (λ y. pageless (use_meant y)) (λ _. tt) (λ _. tt)))
          go used.Idle q z = absurd (subst pageless z tt)
          go (used.PageOf b y x) q z =
              let i : b ≡ w = cc in
              let j : loan_meant (closed_loan owns (λ d. is_in d ys) x) ≡ l = cc in
              sym j ∙ loan_home b x i (loan_ok co b y g x q)

      pub end_done : (q : ℕ → Bool) → ((u : ℕ) → q u ≡ tests.shows_any (bare (v.place w u))) → ((b u : ℕ) → hid b u ≡ hid_then v w q b u) →
          Holds (changes.ended w (closed_all owns (λ e. is_in e ys) w (bared w v))) (nothing_cut ys ns) (Over c (End w) Done) h es
      unfolding acts takes_frame
      end_done q is then' =
          let x = shut_all a.state.devices w a.state in
          record {
            fits = a.fits;
            state = set_use (λ g. not_of w (x.what g)) x;
            run = subst (λ (z : Bool). Meaning.Run can (start_of h) es (cond z (out Done (set_use (λ g. not_of w (x.what g)) x)) (out Later x)).state (Over c (End w) (cond z (out Done (set_use (λ g. not_of w (x.what g)) x)) (out Later x)).answer)) (all_drained_is ∙ every_yes)
                (Meaning.acted 0 a.run (all_built _) (end_allowed a.state c w lt zero_asks) tt excused_there);
            shape = shape_there;
            drained_are = drained_there;
            undrained_are = undrained_there;
            kept = record {
              uses_are = λ g. ap (not_of w) (settled.kept.uses_are g) ∙ meant_not_of w (closed_use owns (λ e. is_in e ys) (v.used g));
              devs_are = settled.kept.devs_are;
              slots_are = settled.kept.slots_are;
              regs_are = λ b u. settled.kept.regs_are b u ∙ registers_bared (eqb b w) (v.place b u);
            };
            sound = pages_gone settled.sound w (λ g u l b e. page_home g u l e);
            words = words_gone (view_of x) settled.words w;
            live = a.live;
            shown = λ b u p r. a.shown b u p r ∙ (ap (λ (z : Bool). cond z Nothing (shown_meant (v.place b u))) (then' b u) ∙ shown_ended v w q is b u r);
            roots = roots_there;
            severed = λ e t. absurd t;
            forgot = λ e t i. absurd t;
          }

-- after a later, an end would still come to that
later_end : (v : ledger.View) (owns : ℕ → Bool) (w : ℕ) {ys ns : List ℕ} {n : Now} {h : Hw} {es : List Event} (c m : ℕ) (a : Holds (closed_all owns (λ e. is_in e ys) w v) (nothing_cut ys ns) n h es) → m ≡ h.devices → all_in m owns ys ≡ false → T (Meaning.may_tell a.state c (End w) Later)
unfolding acts Meaning.is_later owner_is dev_meant
later_end v owns w {ys} c m a q no_yet =
    let r = not_all_in m owns ys (from_false (all_in m owns ys) no_yet) in
    let d = r.0 in
    let dev : a.state.dev d ≡ Meaning.Closing w = a.kept.devs_are d ∙ closing_still d r.2 r.3 in
    let o : T (owner_is w (a.state.dev d)) = subst (λ (z : Dev). T (owner_is w z)) (sym dev) (same_number w w refl) in
    let n : T (not (all_drained a.state.devices w a.state)) = not_T (all_drained a.state.devices w a.state) (λ t. T_not (is_in d ys) (from_false (is_in d ys) r.3) (subst (λ (z : List ℕ). T (is_in d z)) a.drained_are (drained_of_all a.state.devices w a.state t d (omega (arith, r.1, a.shape.devices_are)) o))) in
    rw (is_false (all_drained a.state.devices w a.state) n) tt
  where
    closing_still : (d : ℕ) → owns d ≡ true → is_in d ys ≡ false → dev_meant (cond (owns d) (cond (is_in d ys) device.Shut (device.Closing w)) (v.device d)) ≡ Meaning.Closing w
    closing_still d p q = rw (p, q)

-- An end in whole: refused, or done, or to be done later.
pub end_refused : {room : List ℕ} {who p : ℕ} {h : Hw} {es : List Event} (e : Refusal) → Begins room who (End p) h es → EndRefused who p e → Keeps room Quiet h (Told who (End p) (No (number_of e)) ∷ es)
unfolding why
end_refused {p = p} OutOfRange b x = keeps_reason OutOfRange b (rw (le-leb 32 p x))
end_refused NoPage b x = absurd x
end_refused Occupied b x = absurd x
end_refused WrongLoan b x = absurd x
end_refused NotYours b x = absurd x
end_refused Held b x = absurd x
end_refused NoFrame b x = absurd x
end_refused {who = who} {p = p} NotPermitted b x = keeps_reason NotPermitted b (rw (lt-leb 32 p x.0, ne_eqb who 0 x.1))
end_refused NotBuilt b x = absurd x

-- what it takes to close the devices
pub record MayClose (room : List ℕ) (m p : ℕ) (k : Hw) : Type 0 where
  pub soon : 64 ≤ k.left
  pub frames : 0 < k.frames
  pub few : m ≤ 32
  pub devices : m ≡ k.devices
  pub hidden : (a b d : ℕ) → entries.place_of room a b ≡ place.Registers d → tests.owner_is p (entries.device_of room d) ≡ true → ⊥

pub end_may_close : {room : List ℕ} {who p n m : ℕ} {h i : Hw} {es fs : List Event} {q : ℕ → Bool} → n ≡ h.frames → m ≡ h.devices → 2048 ≤ h.left → Begins room who (End p) h es → Hid p q h es 1024 i fs → (room1 : List ℕ) → ledger.view_of n room1 ≡ bared p (ledger.view_of n room) → MayClose room1 m p i
end_may_close {room} {who} {p} {n} {m} {h} {i} {q = q} y z l b hid room1 v1 =
    let c = count_most q 1024 in
    record {
      soon = omega (arith, hid.left);
      frames = omega (arith, hid.frames, b.holds.fits.least);
      few = omega (arith, b.holds.fits.few);
      devices = z ∙ sym hid.devices;
      hidden = bare_nowhere n room room1 (subst (λ (k : ℕ). Consistent k room) (sym y) b.tidy) p v1;
    }

-- the pages that are left to hide
pages_left : (n : ℕ) {owns : ℕ → Bool} {w : ℕ} {h j : Hw} {es gs : List Event} {k : ℕ} {all : Bool} (room room1 room2 : List ℕ) → ledger.view_of n room1 ≡ bared w (ledger.view_of n room) → ClosedSoFar owns w (ledger.view_of n room1) h es k (ledger.view_of n room2) all j gs → (u : ℕ) →
    tests.shows_any (entries.place_of room2 w u) ≡ tests.shows_any (bare (entries.place_of room w u))
pages_left n {w = w} room room1 room2 v1 c u = ap (λ (z : ledger.View). tests.shows_any (z.place w u)) c.view ∙ (ap (λ (z : ledger.View). tests.shows_any (z.place w u)) v1 ∙ rw (eq-eqb w w refl))

-- what it takes to hide them
pub end_may_hide : (n : ℕ) (room room2 : List ℕ) {owns : ℕ → Bool} {p m : ℕ} {h i j : Hw} {es fs gs : List Event} {all : Bool} → m ≤ 32 → 2048 ≤ h.left → Hid p (λ u. shows_some (entries.place_of room p u)) h es 1024 i fs → (room1 : List ℕ) → ledger.view_of n room1 ≡ bared p (ledger.view_of n room) →
    ClosedSoFar owns p (ledger.view_of n room1) i fs m (ledger.view_of n room2) all j gs → count (λ u. tests.shows_any (entries.place_of room2 p u)) 1024 ≤ j.left
end_may_hide n room room2 {p = p} {j = j} few l hid room1 v1 c =
    let e = fun_ext (pages_left n room room1 room2 v1 c) in
    let k = apart (λ u. shows_some (entries.place_of room p u)) (λ u. tests.shows_any (bare (entries.place_of room p u))) 1024 (λ u. some_or_any (entries.place_of room p u)) in
    subst (λ (q : ℕ → Bool). count q 1024 ≤ j.left) (sym e) (omega (arith, hid.left, c.left))

-- the devices of the program are those of the room as it was
owns_same : (n p : ℕ) (room room1 : List ℕ) → ledger.view_of n room1 ≡ bared p (ledger.view_of n room) → (e : ℕ) → tests.owner_is p (entries.device_of room1 e) ≡ tests.owner_is p (entries.device_of room e)
owns_same n p room room1 v1 e = ap (λ (z : ledger.View). tests.owner_is p (z.device e)) v1

-- all have been asked, and the registers are hidden
asked_all : {room : List ℕ} (room1 : List ℕ) {who p n m : ℕ} {h i j : Hw} {es fs gs : List Event} {u : ledger.View} {all : Bool} → n ≡ h.frames → Begins room who (End p) h es → p < 32 → who ≡ 0 → Hid p (λ u. shows_some (entries.place_of room p u)) h es 1024 i fs →
    ledger.view_of n room1 ≡ bared p (ledger.view_of n room) → (c : ClosedSoFar (λ d. tests.owner_is p (entries.device_of room1 d)) p (ledger.view_of n room1) i fs m u all j gs) →
    Holds (let_go_all (λ d. tests.owner_is p (entries.device_of room1 d)) (ledger.view_of n room)) (cut_so_far (λ d. tests.owner_is p (entries.device_of room1 d)) m (hid_first (ledger.view_of n room) p) c.yeses c.noes) (Under who (End p)) j gs
asked_all {room} room1 {who} {p} {n} {m} {h} {i} {j} {es} {fs} {gs} q b lt z hid v1 c =
    let v = ledger.view_of n room in
    let owns : ℕ → Bool = λ d. tests.owner_is p (entries.device_of room1 d) in
    let a0 : Holds v (nothing_cut [] []) (Under who (End p)) h es = subst (λ (k : ℕ). Holds (ledger.view_of k room) (nothing_cut [] []) (Under who (End p)) h es) (sym q) b.holds in
    let a1 = loosen_end owns p (owns_same n p room room1 v1) lt z a0 in
    closes_hold (let_go_unlent owns v) (hides_hold a1 hid.places) c.asked

closed_view : (n p m : ℕ) (room room1 : List ℕ) (u : ledger.View) (ys : List ℕ) → ledger.view_of n room1 ≡ bared p (ledger.view_of n room) → ((e : ℕ) → tests.owner_is p (entries.device_of room1 e) ≡ true → e < m) →
    u ≡ closed_all (below m (λ d. tests.owner_is p (entries.device_of room1 d))) (λ e. is_in e ys) p (ledger.view_of n room1) → u ≡ closed_all (λ d. tests.owner_is p (entries.device_of room1 d)) (λ e. is_in e ys) p (bared p (ledger.view_of n room))
closed_view n p m room room1 u ys v1 known e =
    e ∙ (ap (λ (q : ℕ → Bool). closed_all q (λ e. is_in e ys) p (ledger.view_of n room1)) (fun_ext (below_all (λ d. tests.owner_is p (entries.device_of room1 d)) m known)) ∙ ap (closed_all (λ d. tests.owner_is p (entries.device_of room1 d)) (λ e. is_in e ys) p) v1)

-- what an answer needs of the room and of the machine
module _ {room : List ℕ} {u : ledger.View} {who p n m : ℕ} {h i j : Hw} {es fs gs : List Event} {all : Bool} (q : n ≡ h.frames) (y : m ≡ h.devices) (b : Begins room who (End p) h es) (lt : p < 32) (z : who ≡ 0) (hid : Hid p (λ u. shows_some (entries.place_of room p u)) h es 1024 i fs) (room1 : List ℕ)
    (v1 : ledger.view_of n room1 ≡ bared p (ledger.view_of n room)) (c : ClosedSoFar (λ d. tests.owner_is p (entries.device_of room1 d)) p (ledger.view_of n room1) i fs m u all j gs) where
  co_there : Coherent (ledger.view_of n room)
  co_there = subst (λ (k : ℕ). Coherent (ledger.view_of k room)) (sym q) b.tidy.coherent

  holds_there : Holds (let_go_all (λ d. tests.owner_is p (entries.device_of room1 d)) (ledger.view_of n room)) (cut_so_far (λ d. tests.owner_is p (entries.device_of room1 d)) m (hid_first (ledger.view_of n room) p) c.yeses c.noes) (Under who (End p)) j gs
  holds_there = asked_all room1 q b lt z hid v1 c

  devices_there : m ≡ j.devices
  devices_there = y ∙ sym (c.devices ∙ hid.devices)

  frames_there : j.frames ≡ n
  frames_there = c.frames ∙ hid.frames ∙ sym q

  view_there : u ≡ closed_all (λ d. tests.owner_is p (entries.device_of room1 d)) (λ e. is_in e c.yeses) p (bared p (ledger.view_of n room))
  view_there =
      closed_view n p m room room1 u c.yeses v1
      (λ e o. let l = known_device (λ d. tests.owner_is p (entries.device_of room1 d)) p (owns_same n p room room1 v1) holds_there e o in omega (arith, holds_there.shape.devices_are, devices_there)) c.view

pub end_told_later : {room room2 : List ℕ} {who p n m : ℕ} {h i j : Hw} {es fs gs : List Event} → n ≡ h.frames → m ≡ h.devices → Begins room who (End p) h es → p < 32 → who ≡ 0 → Hid p (λ u. shows_some (entries.place_of room p u)) h es 1024 i fs → (room1 : List ℕ) →
    ledger.view_of n room1 ≡ bared p (ledger.view_of n room) → ClosedSoFar (λ d. tests.owner_is p (entries.device_of room1 d)) p (ledger.view_of n room1) i fs m (ledger.view_of n room2) false j gs → Consistent n room2 → Keeps room2 Quiet j (Told who (End p) Later ∷ gs)
end_told_later {room} {room2} {who} {p} {n} {m} q y b lt z hid room1 v1 c t =
    let owns : ℕ → Bool = λ d. tests.owner_is p (entries.device_of room1 d) in
    let a = holds_there q y b lt z hid room1 v1 c in
    let k = devices_there q y b lt z hid room1 v1 c in
    let x = end_later (co_there q y b lt z hid room1 v1 c) owns p (owns_same n p room room1 v1) a k (all_asked c.asked) lt z (sym c.all_yes) (λ e u. refl) in
    keeps_told (frames_there q y b lt z hid room1 v1 c) t (view_there q y b lt z hid room1 v1 c) x (later_end (bared p (ledger.view_of n room)) owns p who m x k (sym c.all_yes))

pub end_told_done : {room room3 : List ℕ} (room2 : List ℕ) {who p n m : ℕ} {h i j o : Hw} {es fs gs os : List Event} → n ≡ h.frames → m ≡ h.devices → Begins room who (End p) h es → p < 32 → who ≡ 0 → Hid p (λ u. shows_some (entries.place_of room p u)) h es 1024 i fs → (room1 : List ℕ) →
    ledger.view_of n room1 ≡ bared p (ledger.view_of n room) → ClosedSoFar (λ d. tests.owner_is p (entries.device_of room1 d)) p (ledger.view_of n room1) i fs m (ledger.view_of n room2) true j gs → Hid p (λ u. tests.shows_any (entries.place_of room2 p u)) j gs 1024 o os →
    ledger.view_of n room3 ≡ changes.ended p (ledger.view_of n room2) → Consistent n room3 → Keeps room3 Quiet o (Told who (End p) Done ∷ os)
end_told_done {room} {room3} room2 {who} {p} {n} {m} q y b lt z hid room1 v1 c hid2 v3 t =
    let owns : ℕ → Bool = λ d. tests.owner_is p (entries.device_of room1 d) in
    let a = hides_hold (holds_there q y b lt z hid room1 v1 c) hid2.places in
    let k = devices_there q y b lt z hid room1 v1 c ∙ sym hid2.devices in
    let x = end_done (co_there q y b lt z hid room1 v1 c) owns p (owns_same n p room room1 v1) a k (all_asked c.asked) lt z (sym c.all_yes) (λ u. tests.shows_any (entries.place_of room2 p u)) (pages_left n room room1 room2 v1 c) (λ e u. refl) in
    keeps_done (hid2.frames ∙ frames_there q y b lt z hid room1 v1 c) t (v3 ∙ ap (changes.ended p) (view_there q y b lt z hid room1 v1 c)) x
