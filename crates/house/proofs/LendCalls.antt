-- lend: when it is refused, and what it makes of the room and the machine, with a lower table that is there or with a new one.
use Rattle.std.proofs.Common.{◌≡◌, ℕ, suc, ◌+◌, ◌-◌, ◌/◌, ◌%◌, ◌<◌, ◌≤◌, Bool, true, false, cond, not, ◌&&◌, ◌||◌, T, eqb, leb, List, ◌∷◌, sym, refl, ap, ◌∙◌, subst, ⊎_elim, arith, eqb→eq}
use mathlib.Core.Path.{fun_ext}
use Rattle.std.proofs.lemmas.Bool.{lt-leb, le-leb, lt-ltb, cases_lt, cases_eq, eq-eqb, ne_eqb, false≢true}
use Rattle.ledger.specs.declared.Loan.TheVariants as loan
use Rattle.ledger.specs.declared.mapping.Mapping.{Mapping}
use Rattle.ledger.specs.declared.room.Room.{Room}
use Rattle.ledger.specs.declared.Which.TheVariants as which
use Rattle.ledger.specs.declared.Use as uses
use Rattle.ledger.specs.declared.Use.TheVariants as used
use Rattle.ledger.specs.declared.Place.TheVariants as place
use Rattle.ledger.specs.declared.Device.{Device}
use Rattle.ledger.specs.declared.Device.TheVariants as device
use Rattle.ledger.specs.View as ledger
use Rattle.ledger.specs.Uses as tests
use Rattle.ledger.specs.Room.{use_of, place_of, device_of, low_of, top_of}
use Rattle.ledger.specs.Words.{LoanFits}
use Rattle.ledger.specs.Changes.{with_loan, lower_at}
use Rattle.ledger.specs.Rooms.{says, Becomes}
use Rattle.ledger.proofs.Loaned.{lent_alone}
use Rattle.ledger.specs.Consistent.{Coherent, Consistent, LoanOk}
use Rattle.house.specs.declared.Call.TheVariants.{Lend}
use Rattle.house.specs.declared.Answer.TheVariants.{Done, No}
use Rattle.house.specs.declared.refusals.Refusal.{Refusal}
use Rattle.house.specs.declared.refusals.Refusal.TheVariants.{OutOfRange, NoPage, Occupied, WrongLoan, NotYours, Held, NoFrame, NotPermitted, NotBuilt}
use Rattle.house.specs.Event.{Event, Told}
use Rattle.house.specs.Machine.{Hw, Steps, counted, with_mem, put}
use Rattle.house.specs.Meaning
use Rattle.house.specs.Meaning.{State, Loan, Home, Lent, Use, TableOf, Idle, Of, Dev, Opened, has, full, idle, is_home, is_at, is_shut, open_by, loan, loan_of, why, acts, Out, out, excused, takes_frame, use_at, set_use, set_slots, Quiet, Under, Over}
use Rattle.house.specs.Promise.{can, start_of}
use Rattle.house.specs.Sound as sound
use Rattle.house.specs.Sound.{view_of, Tables, Sound, entry_of, is_page}
use Rattle.house.specs.Kept.{Kept, tables_in, use_meant, loan_meant, dev_meant}
use Rattle.house.specs.Lends.{Untaken, Lendable}
use Rattle.house.specs.Operations.{Cleared}
use Rattle.house.specs.Refusals.{number_of, LendRefused}
use Rattle.house.specs.Serving.{nothing_cut, Holds, Keeps, Begins}
use Rattle.house.proofs.Shelf.{is_true, is_false, from_true, from_false, left, right, pair, none_any, any_from, any_none, same_number, at_one}
use Rattle.house.proofs.Facts.{with_uses, put_here, put_elsewhere, put_beside}
use Rattle.house.proofs.Rooms.{Inside, inside_room, below, idle_frame, page_has, page_use, table_at_no_page, no_idle, loan_away}
use Rattle.house.proofs.Keeping.{kept_use, kept_low}
use Rattle.house.proofs.PageWords.{words_put, words_page, words_none}
use Rattle.house.proofs.Tables.{with_low, low_not_root, top_not_root}
use Rattle.house.proofs.Lending.{lend_entry, lend_linked}
use Rattle.house.proofs.Steps.{steps_same}
use Rattle.house.proofs.Between.{holds_steps, keeps_done, keeps_reason}
use Rattle.house.proofs.Idle.{idle_meant, steps_quiet, put_idle, clears_idle}
use Rattle.house.proofs.Built.{all_built}
use Rattle.house.proofs.Getting.{idle_seen}
use Rattle.house.proofs.Mappings.{mapping}

-- tests
twice : (b : Bool) → T b → T (not (not b))
twice true t = tt
twice false t = t

in_range : (u n d p : ℕ) → u < 1024 → d < n → p < 262144 → (leb 1024 u || leb n d || leb 262144 p) ≡ false
in_range u n d p a b c = rw (lt-leb 1024 u a, lt-leb n d b, lt-leb 262144 p c)

out_of_range : (u n d p : ℕ) → (u < 1024 → d < n → p < 262144 → ⊥) → (leb 1024 u || leb n d || leb 262144 p) ≡ true
out_of_range u n d p out =
    ⊎_elim
    (λ (a : u < 1024). rw (lt-leb 1024 u a) (⊎_elim (λ (b : d < n). rw (lt-leb n d b) (⊎_elim (λ (c : p < 262144). absurd (out a b c)) (λ (c : 262144 ≤ p). le-leb 262144 p c) (cases_lt p 262144))) (λ (b : n ≤ d). rw (le-leb n d b)) (cases_lt d n)))
    (λ (a : 1024 ≤ u). rw (le-leb 1024 u a))
    (cases_lt u 1024)

-- a page at home
at_home : {v : ledger.View} (s : State) (co : Coherent v) (k : Kept v s) (i : Inside s.frames v) (c u f : ℕ) → v.place c u ≡ place.Page f → v.used f ≡ used.PageOf c u loan.Home → T (is_home (loan s c u))
unfolding loan_of is_home loan_meant
at_home s co k i c u f e x =
    let m : s.what f ≡ Of c u Home = page_use s co k i c u f loan.Home x in
    rw ((page_has s co k i c u f e).1, m) tt

-- a page of a device is taken, as the room and as the meaning have it
at_meant : (d p : ℕ) (x : uses.Use) → is_at d p (loan_of (use_meant x)) ≡ tests.is_at d p (tests.loan_in x)
unfolding is_at loan_of use_meant loan_meant
at_meant d p used.House = refl
at_meant d p (used.TableOf e t) = refl
at_meant d p used.Idle = refl
at_meant d p (used.PageOf c u loan.Home) = refl
at_meant d p (used.PageOf c u (loan.Lent m)) = refl
at_meant d p (used.PageOf c u (loan.Leaving m)) = refl

open_meant : (c : ℕ) (x : Device) → T (open_by c (dev_meant x)) → x ≡ device.Opened c
unfolding open_by dev_meant
open_meant c device.Shut t = absurd t
open_meant c (device.Opened w) t = let e = eqb→eq c w t in cc
open_meant c (device.Closing w) t = absurd t

lent_there : (d p a b : ℕ) (x : Bool) (y : Use) → y ≡ Of a b (Lent d p x) → T (is_at d p (loan_of y))
unfolding is_at loan_of
lent_there d p a b x y e = subst (λ (z : Use). T (is_at d p (loan_of z))) (sym e) (pair (eqb d d) (eqb p p) (same_number d d refl) (same_number p p refl))

module _ {v : ledger.View} (s : State) (co : Coherent v) (k : Kept v s) (i : Inside s.frames v) (c d p : ℕ) where
  at_is : (g : ℕ) → is_at d p (loan_of (s.what g)) ≡ tests.is_at d p (tests.loan_in (v.used g))
  at_is g = ap (λ (x : Use). is_at d p (loan_of x)) (k.uses_are g) ∙ at_meant d p (v.used g)

  pub page_untaken : Untaken v d p → T (not (Meaning.used s d p))
  page_untaken none = none_any s.frames (λ (g : ℕ). is_at d p (loan_of (s.what g))) (λ g lt t. none g (sym (at_is g) ∙ is_true (is_at d p (loan_of (s.what g))) t))

  pub page_taken : (g : ℕ) → tests.is_at d p (tests.loan_in (v.used g)) ≡ true → T (Meaning.used s d p)
  page_taken g e =
      any_from s.frames (λ (f : ℕ). is_at d p (loan_of (s.what f))) g
      (below s co k i g (λ z. false≢true (ap (λ (x : uses.Use). tests.is_at d p (tests.loan_in x)) (sym z) ∙ e)))
      (from_true (is_at d p (loan_of (s.what g))) (at_is g ∙ e))

  pub device_open : v.device d ≡ device.Opened c → s.dev d ≡ Opened c
  unfolding dev_meant
  device_open e = k.devs_are d ∙ ap dev_meant e

  pub opened_in_meaning : v.device d ≡ device.Opened c → T (open_by c (s.dev d))
  unfolding open_by
  opened_in_meaning e = subst (λ (x : Dev). T (open_by c x)) (sym (device_open e)) (same_number c c refl)

  pub not_open_by : (v.device d ≡ device.Opened c → ⊥) → open_by c (s.dev d) ≡ false
  not_open_by none = go (open_by c (s.dev d)) refl
    where
      go : (b : Bool) → open_by c (s.dev d) ≡ b → open_by c (s.dev d) ≡ false
      go true e = absurd (none (open_meant c (v.device d) (subst (λ (x : Dev). T (open_by c x)) (k.devs_are d) (from_true (open_by c (s.dev d)) e))))
      go false e = e

  pub slot_there : (j t : ℕ) → v.low d j ≡ suc t → s.slots d j ≡ true
  slot_there j t e = k.slots_are d j ∙ (rw (e, ne_eqb (suc t) 0 (λ z. omega arith)))

  pub slot_missing : (j : ℕ) → v.low d j ≡ 0 → s.slots d j ≡ false
  slot_missing j e = k.slots_are d j ∙ (rw e refl)

  -- a device that is open is held
  pub held_open : d < s.devices → v.device d ≡ device.Opened c → sound.Held (view_of s) d
  unfolding is_shut
  held_open lt e = (lt, subst (λ (x : Dev). T (not (is_shut x))) (sym (device_open e)) tt)

  -- nothing speaks against it
  pub lend_allowed : (u f : ℕ) (w : Bool) → Lendable v s.devices c u f d p → (not (s.slots d (p / 512)) && full s) ≡ false → why s c (Lend u d p w) ≡ 0
  unfolding why loan_of is_home loan_meant
  lend_allowed u f w l room =
      let q = page_has s co k i c u f l.shown in
      let m : s.what f ≡ Of c u Home = page_use s co k i c u f loan.Home l.home in
      rw (in_range u s.devices d p l.place l.device l.page, is_true (has s c u) q.0, is_false (Meaning.used s d p) (page_untaken l.untaken), q.1, m, is_true (open_by c (s.dev d)) (opened_in_meaning l.opened), room)

table_no_page : (d : ℕ) (x : Use) → x ≡ TableOf d → T (not (is_page x))
unfolding is_page
table_no_page d x e = subst (λ (y : Use). T (not (is_page y))) (sym e) tt

-- A page at home whose lower table is there is lent by its entry.
pub lend_entered : {v : ledger.View} {c u f d p t : ℕ} {w : Bool} {h : Hw} {es : List Event} {xs ys : List ℕ} → Coherent v → Inside h.frames v → Lendable v h.devices c u f d p → v.low d (p / 512) ≡ suc t →
    Holds v (nothing_cut xs ys) (Under c (Lend u d p w)) h es → Holds (with_loan c u f (loan.Lent (mapping d p w)) v) (nothing_cut xs ys) (Over c (Lend u d p w) Done) (counted (with_mem (put t (p % 512) (entry_of f w) h.mem) h)) es
unfolding acts takes_frame excused use_meant loan_meant
lend_entered {v} {c} {u} {f} {d} {p} {t} {w} {h} {es} {xs} {ys} co inside lendable low a =
    let s = a.state in
    let i = subst (λ (n : ℕ). Inside n v) (sym a.shape.frames_are) inside in
    let l = subst (λ (n : ℕ). Lendable v n c u f d p) (sym a.shape.devices_are) lendable in
    let slot = slot_there s co a.kept i c d p (p / 512) t low in
    let there = from_true (s.slots d (p / 512)) slot in
    let q = page_has s co a.kept i c u f l.shown in
    let m : s.what f ≡ Of c u Home = page_use s co a.kept i c u f loan.Home l.home in
    let ok = lend_allowed s co a.kept i c d p u f w l (rw slot refl) in
    let acted : acts 0 s c (Lend u d p w) ≡ out Done (set_use (use_at f (Of c u (Lent d p w)) s.what) s) = rw (slot, q.1) refl in
    let table : (tables_in v).low d (p / 512) ≡ t = rw low (omega arith) in
    let own = (a.sound.low d (p / 512) there).1 in
    let unused = λ (g x y : ℕ) (z : Bool) (b : g < s.frames) (e : s.what g ≡ Of x y (Lent d p z)).
    any_none s.frames (λ (k : ℕ). is_at d p (loan_of (s.what k))) (page_untaken s co a.kept i c d p l.untaken) g b (lent_there d p x y z (s.what g) e) in
    let after = lend_entry a.sound f c u d p w q.2 m a.live (held_open s co a.kept i c d p l.device l.opened) l.page (a.roots d c l.opened) there unused in
    let entered = words_page (view_of s) (words_put (view_of s) a.words ((tables_in v).low d (p / 512)) (p % 512) (entry_of f w) (table_no_page d _ own)) f c u Home (Of c u (Lent d p w)) m in
    record {
      fits = a.fits;
      state = set_use (use_at f (Of c u (Lent d p w)) s.what) s;
      run = subst (λ (o : Out). Meaning.Run can (start_of h) es o.state (Over c (Lend u d p w) o.answer)) acted (Meaning.acted 0 a.run (all_built _) ok (left (not (not (s.slots d (p / 512)))) (idle s 0) (twice (s.slots d (p / 512)) there)) tt);
      shape = a.shape;
      drained_are = a.drained_are;
      undrained_are = a.undrained_are;
      kept = kept_use s a.kept f (used.PageOf c u (loan.Lent (mapping d p w)));
      sound = subst (λ (x : ℕ). Sound (tables_in v) (with_uses (use_at f (Of c u (Lent d p w)) s.what) (view_of s)) (put x (p % 512) (entry_of f w) h.mem) h.live h.ups h.mids h.leaves h.flying) table after;
      words = subst (λ (x : ℕ). sound.Words (with_uses (use_at f (Of c u (Lent d p w)) s.what) (view_of s)) s.word (put x (p % 512) (entry_of f w) h.mem)) table entered;
      live = a.live;
      shown = a.shown;
      roots = λ e o z. put_elsewhere t (p % 512) (entry_of f w) h.mem 0 e (λ n. low_not_root a.sound d (p / 512) there (table ∙ sym n)) ∙ a.roots e o z;
      severed = λ e n. absurd n;
      forgot = λ e n j. absurd n;
    }

-- the tables of the room with one more lower table
more_tables : (v : ledger.View) (d j f : ℕ) → with_low d j f (tables_in v) ≡ tables_in (ledger.with_low d j (suc f) v)
more_tables v d j f = ap (λ (g : ℕ → ℕ → ℕ). Tables·of v.top g) (fun_ext (λ e. fun_ext (λ i. go (eqb e d && eqb i j) (v.low e i))))
  where
    Tables·of : (ℕ → ℕ) → (ℕ → ℕ → ℕ) → Tables
    Tables·of top low = record { top = top; low = low }

    go : (b : Bool) (x : ℕ) → cond b f (x - 1) ≡ cond b (suc f) x - 1
    go true x = omega arith
    go false x = refl

apart_uses : (f g : ℕ) (x y : uses.Use) (z : uses.Use) (j : ℕ) → (f ≡ g → ⊥) → cond (eqb j f) x (cond (eqb j g) y z) ≡ cond (eqb j g) y (cond (eqb j f) x z)
apart_uses f g x y z j n =
    ⊎_elim
    (λ (e : j ≡ g). rw (eq-eqb j g e, ne_eqb j f (λ q. n (sym q ∙ e))))
    (λ (e : j ≡ g → ⊥). rw (ne_eqb j g e))
    (cases_eq j g)

-- A page at home is lent by the link of a new lower table that has its entry alone.
pub lend_linked_done : {v : ledger.View} {c u g d p f : ℕ} {w : Bool} {h : Hw} {es : List Event} {xs ys : List ℕ} → Coherent v → Inside h.frames v → Lendable v h.devices c u g d p → v.low d (p / 512) ≡ 0 → f < h.frames → v.used f ≡ used.Idle →
    h.mem f (p % 512) ≡ entry_of g w → ((k : ℕ) → k < 512 → (k ≡ p % 512 → ⊥) → h.mem f k ≡ 0) → Holds v (nothing_cut xs ys) (Under c (Lend u d p w)) h es →
    Holds (with_loan c u g (loan.Lent (mapping d p w)) (lower_at d (p / 512) f v)) (nothing_cut xs ys) (Over c (Lend u d p w) Done) (counted (with_mem (put (v.top d) (p / 512) (suc f) h.mem) h)) es
unfolding acts takes_frame excused use_meant loan_meant is_page
lend_linked_done {v} {c} {u} {g} {d} {p} {f} {w} {h} {es} {xs} {ys} co inside lendable low small x entry zeros a =
    let s = a.state in
    let i = subst (λ (n : ℕ). Inside n v) (sym a.shape.frames_are) inside in
    let l = subst (λ (n : ℕ). Lendable v n c u g d p) (sym a.shape.devices_are) lendable in
    let b = subst (λ (n : ℕ). f < n) (sym a.shape.frames_are) small in
    let slot = slot_missing s co a.kept i c d p (p / 512) low in
    let q = page_has s co a.kept i c u g l.shown in
    let m : s.what g ≡ Of c u Home = page_use s co a.kept i c u g loan.Home l.home in
    let z = idle_meant a f x in
    let idle_there = idle_frame s co a.kept i f b x in
    let ok = lend_allowed s co a.kept i c d p u g w l (rw (slot, is_false (full s) idle_there.1) refl) in
    let lent : uses.Use = used.PageOf c u (loan.Lent (mapping d p w)) in
    let table : uses.Use = used.TableOf d (which.Lower (p / 512)) in
    let first = set_use (use_at g (Of c u (Lent d p w)) s.what) s in
    let both = set_use (use_at f (TableOf d) first.what) s in
    let acted : acts f s c (Lend u d p w) ≡ out Done (set_slots (λ e j. s.slots e j || (eqb e d && eqb j (p / 512))) both) = rw (slot, q.1) refl in
    let held = held_open s co a.kept i c d p l.device l.opened in
    let k = kept_low both (kept_use first (kept_use s a.kept g lent) f table) d (p / 512) f in
    let after = lend_linked a.sound g c u d p w q.2 m a.live held l.page (a.roots d c l.opened) f b z (from_false (s.slots d (p / 512)) slot) entry zeros in
    let put_in = words_put (view_of s) a.words (v.top d) (p / 512) (suc f) (table_no_page d _ (a.sound.top d held).1) in
    record {
      fits = a.fits;
      state = set_slots (λ e j. s.slots e j || (eqb e d && eqb j (p / 512))) both;
      run = subst (λ (o : Out). Meaning.Run can (start_of h) es o.state (Over c (Lend u d p w) o.answer)) acted (Meaning.acted f a.run (all_built _) ok (right (not (not (s.slots d (p / 512)))) (idle s f) idle_there.0) tt);
      shape = a.shape;
      drained_are = a.drained_are;
      undrained_are = a.undrained_are;
      kept = record { uses_are = λ j. k.uses_are j ∙ ap use_meant (apart_uses f g table lent (v.used j) j (λ e. other_use x l.home e)); devs_are = k.devs_are; slots_are = k.slots_are; regs_are = k.regs_are };
      sound = subst (λ (t : Tables). Sound t (view_of (set_slots (λ e j. s.slots e j || (eqb e d && eqb j (p / 512))) both)) (put (v.top d) (p / 512) (suc f) h.mem) h.live h.ups h.mids h.leaves h.flying) (more_tables v d (p / 512) f) after;
      words = words_none (view_of first) (words_page (view_of s) put_in g c u Home (Of c u (Lent d p w)) m) f (TableOf d) tt;
      live = a.live;
      shown = a.shown;
      roots = λ e o n. put_elsewhere (v.top d) (p / 512) (suc f) h.mem 0 e (λ y. top_not_root a.sound d held (sym y)) ∙ a.roots e o n;
      severed = λ e n. absurd n;
      forgot = λ e n j. absurd n;
    }
  where
    other_use : v.used f ≡ used.Idle → v.used g ≡ used.PageOf c u loan.Home → f ≡ g → ⊥
    other_use y n e = let m = ap v.used e in let z : ◌≡◌ {A = ℕ} 0 1 = cc in omega arith

-- A lend in whole. Refused:
pub lend_refused : {room : List ℕ} {who u d p n m : ℕ} {w : Bool} {h : Hw} {es : List Event} (e : Refusal) → n ≡ h.frames → m ≡ h.devices → Begins room who (Lend u d p w) h es → LendRefused (ledger.view_of n room) n m who u d p e →
    Keeps room Quiet h (Told who (Lend u d p w) (No (number_of e)) ∷ es)
unfolding why
lend_refused {room} {who} {u} {d} {p} {n} {m} {w} {h} {es} e q q2 b r =
    go e (subst (λ (z : ℕ). LendRefused v h.frames z who u d p e) (q2 ∙ sym b.holds.shape.devices_are) (subst (λ (z : ℕ). LendRefused (ledger.view_of z room) z m who u d p e) q r))
  where
    v : ledger.View
    v = ledger.view_of h.frames room

    s : State
    s = b.holds.state

    co : Coherent v
    co = b.tidy.coherent

    k : Kept v s
    k = b.holds.kept

    i : Inside s.frames v
    i = subst (λ (z : ℕ). Inside z v) (sym b.holds.shape.frames_are) (inside_room h.frames room)

    no_page_there : (u < 1024) × (d < s.devices) × (p < 262144) → ((f : ℕ) → v.place who u ≡ place.Page f → ⊥) → why s who (Lend u d p w) ≡ 2
    no_page_there r x = rw (in_range u s.devices d p r.0 r.1 r.2, is_false (has s who u) (table_at_no_page s co k i who u x))

    is_taken : (u < 1024) × (d < s.devices) × (p < 262144) → (f : ℕ) → v.place who u ≡ place.Page f → (g : ℕ) → tests.is_at d p (tests.loan_in (v.used g)) ≡ true → why s who (Lend u d p w) ≡ 3
    is_taken r f x g y = rw (in_range u s.devices d p r.0 r.1 r.2, is_true (has s who u) (page_has s co k i who u f x).0, is_true (Meaning.used s d p) (page_taken s co k i who d p g y))

    is_away : (u < 1024) × (d < s.devices) × (p < 262144) → (f : ℕ) → v.place who u ≡ place.Page f → (tests.loan_in (v.used f) ≡ loan.Home → ⊥) → Untaken v d p → why s who (Lend u d p w) ≡ 4
    is_away r f x y z =
        rw (in_range u s.devices d p r.0 r.1 r.2, is_true (has s who u) (page_has s co k i who u f x).0, is_false (Meaning.used s d p) (page_untaken s co k i who d p z), is_false (is_home (loan s who u)) (loan_away s co k i who u f x y))

    not_yours : (u < 1024) × (d < s.devices) × (p < 262144) → (f : ℕ) → v.place who u ≡ place.Page f → v.used f ≡ used.PageOf who u loan.Home → Untaken v d p → (v.device d ≡ device.Opened who → ⊥) → why s who (Lend u d p w) ≡ 5
    not_yours r f x y z o =
        let a = page_has s co k i who u f x in
        rw (in_range u s.devices d p r.0 r.1 r.2, is_true (has s who u) a.0, is_false (Meaning.used s d p) (page_untaken s co k i who d p z), is_true (is_home (loan s who u)) (at_home s co k i who u f x y), not_open_by s co k i who d p o)

    is_full : (f : ℕ) → Lendable v s.devices who u f d p → v.low d (p / 512) ≡ 0 → ((f : ℕ) → f < h.frames → v.used f ≡ used.Idle → ⊥) → why s who (Lend u d p w) ≡ 7
    is_full f l y z =
        let a = page_has s co k i who u f l.shown in
        rw (
          in_range u s.devices d p l.place l.device l.page,
          is_true (has s who u) a.0,
          is_false (Meaning.used s d p) (page_untaken s co k i who d p l.untaken),
          is_true (is_home (loan s who u)) (at_home s co k i who u f l.shown l.home),
          is_true (Meaning.open_by who (s.dev d)) (opened_in_meaning s co k i who d p l.opened),
          slot_missing s co k i who d p (p / 512) y,
          is_true (full s) (no_idle s co k i (λ f lt. z f (subst (λ (t : ℕ). f < t) b.holds.shape.frames_are lt))),
        )

    go : (e : Refusal) → LendRefused v h.frames s.devices who u d p e → Keeps room Quiet h (Told who (Lend u d p w) (No (number_of e)) ∷ es)
    go OutOfRange x = keeps_reason OutOfRange b (rw (out_of_range u s.devices d p x))
    go NoPage x = keeps_reason NoPage b (no_page_there (x.0, x.1, x.2) x.3)
    go Occupied x = keeps_reason Occupied b (is_taken (x.0, x.1, x.2) x.3.0 x.3.1 x.4.0 x.4.1)
    go WrongLoan x = keeps_reason WrongLoan b (is_away (x.0, x.1, x.2) x.3.0 x.3.1 x.3.2 x.4)
    go NotYours x = keeps_reason NotYours b (not_yours (x.0, x.1, x.2) x.3.0 x.3.1 x.3.2 x.4 x.5)
    go Held x = absurd x
    go NoFrame x = keeps_reason NoFrame b (is_full x.0.0 x.0.1 x.1 x.2)
    go NotPermitted x = absurd x
    go NotBuilt x = absurd x

untaken_lower : (v : ledger.View) (d p e j f : ℕ) → Untaken v d p → Untaken (lower_at e j f v) d p
untaken_lower v d p e j f free g =
    at_one (λ (x : uses.Use). tests.is_at d p (tests.loan_in x) ≡ true → ⊥) g f (used.TableOf e (which.Lower j)) (v.used g) (λ _ z. false≢true z) (λ _ z. free g z)

-- what `set_loan` asks, once the lower table is in the room
pub lower_ready : (room room2 : List ℕ) (t : ℕ) {n k m who u f : ℕ} (to : Mapping) → n ≡ k → Lendable (ledger.view_of k room) m who u f to.device to.page → m ≤ 32 → ledger.view_of n room2 ≡ lower_at to.device (to.page / 512) t (ledger.view_of n room) →
    (place_of room2 who u ≡ place.Page f) × (LoanFits (loan.Lent to) × LoanOk (device_of room2) (low_of room2) who (loan.Lent to)) × ((g e q : ℕ) → g < n → tests.is_at e q (loan.Lent to) ≡ true → tests.is_at e q (tests.loan_in (use_of room2 g)) ≡ true → g ≡ f)
lower_ready room room2 t {n} {k} {m} {who} {u} {f} to q l few y =
    let d = to.device in
    let p = to.page in
    let v = ledger.view_of n room in
    let opened : device_of room2 d ≡ device.Opened who = ap (λ (o : ledger.View). o.device d) y ∙ l.opened in
    let low : low_of room2 d (p / 512) ≡ suc t = ap (λ (o : ledger.View). o.low d (p / 512)) y ∙ rw (eq-eqb d d refl, eq-eqb (p / 512) (p / 512) refl) in
    let free : Untaken v d p = subst (λ (i : ℕ). Untaken (ledger.view_of i room) d p) (sym q) l.untaken in
    let alone : Untaken (ledger.view_of n room2) d p = subst (λ (o : ledger.View). Untaken o d p) (sym y) (untaken_lower v d p d (p / 512) t free) in (
      ap (λ (o : ledger.View). o.place who u) y ∙ l.shown,
      ((omega (arith, l.device), l.page), (opened, l.page, λ e. omega (arith, e, low))),
      lent_alone n room2 f to (λ g lt k. alone g (rw (lt-ltb g n lt) k)),
    )

-- the slot of a mapping is that of its device and page
pub lower_made : (r q : Room) (to : Mapping) (t : ℕ) {d i : ℕ} → d ≡ to.device → i ≡ to.page / 512 → Becomes r (lower_at d i t (says r)) q → Becomes r (lower_at to.device (to.page / 512) t (says r)) q
lower_made r q to t {d} {i} x y o = subst (λ (e : ℕ). Becomes r (lower_at e (to.page / 512) t (says r)) q) x (subst (λ (j : ℕ). Becomes r (lower_at d j t (says r)) q) y o)

-- The entry was written in the lower table that is there.
pub enter_told : {room room2 : List ℕ} {who u n f d p t k e : ℕ} {w : Bool} {h j : Hw} {es gs : List Event} → n ≡ h.frames → Begins room who (Lend u d p w) h es → Lendable (ledger.view_of h.frames room) h.devices who u f d p → low_of room d (p / 512) ≡ suc t →
    k ≡ p % 512 → e ≡ entry_of f w → Steps (counted (with_mem (put t k e h.mem) h)) es j gs → Consistent n room2 → ledger.view_of n room2 ≡ with_loan who u f (loan.Lent (mapping d p w)) (ledger.view_of n room) → Keeps room2 Quiet j (Told who (Lend u d p w) Done ∷ gs)
enter_told {room} {room2} {who} {u} {n} {f} {d} {p} {t} {k} {e} {w} {h} {j} {es} {gs} q b l low ek ee m c y =
    let v = ledger.view_of h.frames room in
    let m2 = subst (λ (z : ℕ). Steps (counted (with_mem (put t (p % 512) z h.mem) h)) es j gs) ee (subst (λ (z : ℕ). Steps (counted (with_mem (put t z e h.mem) h)) es j gs) ek m) in
    let y2 : ledger.view_of n room2 ≡ with_loan who u f (loan.Lent (mapping d p w)) v = y ∙ ap (λ (z : ℕ). with_loan who u f (loan.Lent (mapping d p w)) (ledger.view_of z room)) q in
    keeps_done ((steps_same m2).frames ∙ sym q) c y2 (holds_steps (lend_entered b.tidy.coherent (inside_room h.frames room) l low b.holds) m2)

idle_home : (x : Use) → x ≡ Idle → T (is_home (loan_of x))
unfolding is_home loan_of
idle_home x e = subst (λ (y : Use). T (is_home (loan_of y))) (sym e) tt

-- A new lower table was made noughts, given the entry, and linked.
linked : {room room2 : List ℕ} {who u f d p t : ℕ} {w : Bool} {h i k j : Hw} {es fs ks gs : List Event} → Begins room who (Lend u d p w) h es → Lendable (ledger.view_of h.frames room) h.devices who u f d p →
    low_of room d (p / 512) ≡ 0 → t < h.frames → use_of room t ≡ used.Idle → Cleared t h es 512 i fs →
    Steps (counted (with_mem (put t (p % 512) (entry_of f w) i.mem) i)) fs k ks → Steps (counted (with_mem (put (top_of room d) (p / 512) (suc t) k.mem) k)) ks j gs →
    Consistent h.frames room2 → ledger.view_of h.frames room2 ≡ with_loan who u f (loan.Lent (mapping d p w)) (lower_at d (p / 512) t (ledger.view_of h.frames room)) → Keeps room2 Quiet j (Told who (Lend u d p w) Done ∷ gs)
linked {room} {room2} {who} {u} {f} {d} {p} {t} {w} {h} {i} {k} {j} b l low lt x c m1 m2 y2 y =
    let v = ledger.view_of h.frames room in
    let idle : v.used t ≡ used.Idle = idle_seen room h.frames t lt x in
    let o = clears_idle b.holds idle c.words in
    let b1 = put_idle o.holds t (p % 512) (entry_of f w) idle in
    let q1 = steps_same m1 in
    let frames : k.frames ≡ h.frames = q1.frames ∙ c.frames in
    let devices : k.devices ≡ h.devices = q1.devices ∙ c.devices in
    let quiet = λ (n : ℕ). steps_quiet b1 m1 t n (idle_home (b1.state.what t) (idle_meant b1 t idle)) in
    let done = lend_linked_done {w = w} b.tidy.coherent (subst (λ (n : ℕ). Inside n v) (sym frames) (inside_room h.frames room)) (subst (λ (n : ℕ). Lendable v n who u f d p) (sym devices) l) low (subst (λ (n : ℕ). t < n) (sym frames) lt) idle
    (quiet (p % 512) ∙ put_here t (p % 512) (entry_of f w) i.mem) (λ n s e. quiet n ∙ (put_beside t (p % 512) (entry_of f w) i.mem t n e ∙ o.zeros n s)) (holds_steps b1 m1) in
    keeps_done ((steps_same m2).frames ∙ frames) y2 y (holds_steps done m2)

-- the same in the words of the code
pub link_told : {room : List ℕ} (room2 : List ℕ) {room3 : List ℕ} {who u n f d p t r top s a e : ℕ} {w : Bool} {h i k j : Hw} {es fs ks gs : List Event} → n ≡ h.frames → Begins room who (Lend u d p w) h es → Lendable (ledger.view_of h.frames room) h.devices who u f d p →
    low_of room d (p / 512) ≡ 0 → t < h.frames → use_of room t ≡ used.Idle → top ≡ top_of room d → Cleared t h es 512 i fs → r ≡ t → ledger.view_of n room2 ≡ lower_at d (p / 512) t (ledger.view_of n room) →
    a ≡ p % 512 → e ≡ entry_of f w → Steps (counted (with_mem (put r a e i.mem) i)) fs k ks → s ≡ p / 512 → Steps (counted (with_mem (put top s (r + 1) k.mem) k)) ks j gs →
    Consistent n room3 → ledger.view_of n room3 ≡ with_loan who u f (loan.Lent (mapping d p w)) (ledger.view_of n room2) → Keeps room3 Quiet j (Told who (Lend u d p w) Done ∷ gs)
link_told {room} room2 {room3} {who} {u} {n} {f} {d} {p} {t} {r} {top} {s} {a} {e} {w} {h} {i} {k} {j} {es} {fs} {ks} {gs} q b l low lt unused qtop c qr y1 qa qe m1 qs m2 c3 y3 =
    linked b l low lt unused c
    (subst (λ (z : ℕ). Steps (counted (with_mem (put z (p % 512) (entry_of f w) i.mem) i)) fs k ks) qr (subst (λ (z : ℕ). Steps (counted (with_mem (put r z (entry_of f w) i.mem) i)) fs k ks) qa (subst (λ (z : ℕ). Steps (counted (with_mem (put r a z i.mem) i)) fs k ks) qe m1)))
    (subst (λ (z : ℕ). Steps (counted (with_mem (put z (p / 512) (suc t) k.mem) k)) ks j gs) qtop (subst (λ (z : ℕ). Steps (counted (with_mem (put top z (suc t) k.mem) k)) ks j gs) qs (subst (λ (z : ℕ). Steps (counted (with_mem (put top s z k.mem) k)) ks j gs) next m2)))
    (subst (λ (z : ℕ). Consistent z room3) q c3)
    (subst (λ (z : ℕ). ledger.view_of z room3 ≡ with_loan who u f (loan.Lent (mapping d p w)) (lower_at d (p / 512) t (ledger.view_of z room))) q seen)
  where
    next : r + 1 ≡ suc t
    next = omega (arith, qr)

    seen : ledger.view_of n room3 ≡ with_loan who u f (loan.Lent (mapping d p w)) (lower_at d (p / 512) t (ledger.view_of n room))
    seen = y3 ∙ ap (λ (z : ledger.View). with_loan who u f (loan.Lent (mapping d p w)) z) y1
