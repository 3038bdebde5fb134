-- recall: when it is refused, how the page is let go and its entry cleared, and what the answer of the unit makes of it.
use Rattle.std.proofs.Common.{◌≡◌, ℕ, suc, ◌-◌, ◌/◌, ◌%◌, ◌<◌, Bool, true, false, not, T, eqb, List, [], ◌∷◌, sym, refl, ap, ◌∙◌, subst, inl, arith}
use mathlib.Core.Path.{fun_ext}
use Rattle.std.proofs.lemmas.Bool.{lt-leb, le-leb, and_from, eq-eqb}
use Rattle.ledger.specs.declared.Loan as loans
use Rattle.ledger.specs.declared.Loan.TheVariants as loan
use Rattle.ledger.specs.declared.Use as uses
use Rattle.ledger.specs.declared.Use.TheVariants as used
use Rattle.ledger.specs.View as ledger
use Rattle.ledger.specs.Uses as tests
use Rattle.ledger.specs.Changes.{with_loan}
use Rattle.ledger.specs.Consistent.{Coherent, Consistent}
use Rattle.house.specs.declared.Call.TheVariants.{Recall}
use Rattle.house.specs.declared.Answer.{Answer}
use Rattle.house.specs.declared.Answer.TheVariants.{Done, Later, No}
use Rattle.house.specs.declared.refusals.Refusal.{Refusal}
use Rattle.house.specs.declared.refusals.Refusal.TheVariants.{OutOfRange, NoPage, Occupied, WrongLoan, NotYours, Held, NoFrame, NotPermitted, NotBuilt}
use Rattle.house.specs.Event.{Event, Told}
use Rattle.house.specs.Machine.{Hw, Steps, Drains, Forgotten, counted, with_mem, put}
use Rattle.house.specs.Meaning
use Rattle.house.specs.Meaning.{Loan, Home, Lent, Leaving, Use, TableOf, Of, State, Out, out, has, is_home, is_in, device_of, leaving, loan_of, frame_of, why, acts, excused, takes_frame, is_later, loosens, use_at, set_use, Now, Quiet, Under, Over}
use Rattle.house.specs.Promise.{can, start_of}
use Rattle.house.specs.Sound.{view_of, Sound, SoundAt, is_page}
use Rattle.house.specs.Kept.{Kept, tables_in, use_meant, loan_meant}
use Rattle.house.specs.Mappings.{recalled, Away, Settled}
use Rattle.house.specs.Refusals.{number_of, IfNo, RecallRefused}
use Rattle.house.specs.Serving.{Progress, nothing_cut, Holds, Keeps, Begins}
use Rattle.house.proofs.Shelf.{is_true, is_false, left, right, in_here, other_number, at_one, here}
use Rattle.house.proofs.Facts.{put_here, put_elsewhere, page_back}
use Rattle.house.proofs.Rooms.{Inside, inside_room, page_there, page_shown, page_has, page_use, table_at_no_page, loan_there}
use Rattle.house.proofs.Keeping.{kept_use}
use Rattle.house.proofs.Uses.{use_leaving, come_home}
use Rattle.house.proofs.Tables.{put_entry, low_not_root}
use Rattle.house.proofs.PageWords.{words_page, words_put}
use Rattle.house.proofs.Steps.{steps_same, drain_split}
use Rattle.house.proofs.Between.{holds_steps, keeps_told, keeps_done, keeps_reason}
use Rattle.house.proofs.Mappings.{mapping}
use Rattle.house.proofs.Idle.{steps_quiet}
use Rattle.house.proofs.Draining.{holds_heard}
use Rattle.house.proofs.Built.{all_built}

-- LOANS
recalled_meant : (l : loans.Loan) → leaving (loan_meant l) ≡ loan_meant (recalled l)
unfolding leaving loan_meant
recalled_meant loan.Home = refl
recalled_meant (loan.Lent m) = refl
recalled_meant (loan.Leaving m) = refl

-- a loan that leaves d is one to d, or leaves it already
leaves_away : (l : Loan) (d p : ℕ) (w : Bool) → leaving l ≡ Leaving d p w → T (not (is_home l))
unfolding leaving is_home
leaves_away Home d p w e = let z : ◌≡◌ {A = ℕ} 0 1 = cc in absurd (omega arith)
leaves_away (Lent a b x) d p w e = tt
leaves_away (Leaving a b x) d p w e = tt

leaves_device : (l : Loan) (d p : ℕ) (w : Bool) → leaving l ≡ Leaving d p w → device_of l ≡ d
unfolding leaving device_of
leaves_device Home d p w e = let z : ◌≡◌ {A = ℕ} 0 1 = cc in absurd (omega arith)
leaves_device (Lent a b x) d p w e = cc
leaves_device (Leaving a b x) d p w e = cc

-- what is lent at a page of a device stands there in the room
lent_at : (x : uses.Use) (c u d p : ℕ) (w : Bool) → use_meant x ≡ Of c u (Lent d p w) → tests.is_at d p (tests.loan_in x) ≡ true
unfolding use_meant loan_meant
lent_at used.House c u d p w e = let z : ◌≡◌ {A = ℕ} 0 1 = cc in absurd (omega arith)
lent_at (used.TableOf a b) c u d p w e = let z : ◌≡◌ {A = ℕ} 0 1 = cc in absurd (omega arith)
lent_at used.Idle c u d p w e = let z : ◌≡◌ {A = ℕ} 0 1 = cc in absurd (omega arith)
lent_at (used.PageOf a b loan.Home) c u d p w e = let z : ◌≡◌ {A = ℕ} 0 1 = cc in absurd (omega arith)
lent_at (used.PageOf a b (loan.Lent m)) c u d p w e =
    let q : d ≡ m.device = cc in
    let r : p ≡ m.page = cc in
    and_from (eqb d m.device) (eqb p m.page) (eq-eqb d m.device q) (eq-eqb p m.page r)
lent_at (used.PageOf a b (loan.Leaving m)) c u d p w e = let z : ◌≡◌ {A = ℕ} 0 1 = cc in absurd (omega arith)

-- FOUND: what the meaning has of a page that a device has
record Found (s : State) (c u f d p : ℕ) (w : Bool) : Type 0 where
  allowed : why s c (Recall u) ≡ 0
  frame : frame_of s c u ≡ f
  is : s.what f ≡ Of c u (Meaning.loan s c u)
  leaves : leaving (Meaning.loan s c u) ≡ Leaving d p w
  device : device_of (Meaning.loan s c u) ≡ d

found : {v : ledger.View} {c u f d p t : ℕ} {w : Bool} (s : State) → Coherent v → Kept v s → Inside s.frames v → u < 1024 → Away v c u f t (mapping d p w) → Found s c u f d p w
unfolding why loan_meant loan_of
found {v} {c} {u} {f} {d} {p} {t} {w} s co k i lt a =
    let x = page_there co c u f a.shown in
    let q = page_has s co k i c u f a.shown in
    let e = loan_there s co k i c u f a.shown in
    let o = page_use s co k i c u f x.0 x.1 in
    let r : leaving (Meaning.loan s c u) ≡ Leaving d p w = ap leaving e ∙ recalled_meant (tests.loan_in (v.used f)) ∙ ap loan_meant a.loan in
    record {
      allowed = rw (lt-leb 1024 u lt, is_true (has s c u) q.0, is_false (is_home (Meaning.loan s c u)) (leaves_away (Meaning.loan s c u) d p w r));
      frame = q.1;
      is = o ∙ ap (Of c u) (sym (ap (λ (g : ℕ). loan_of (s.what g)) q.1 ∙ ap loan_of o));
      leaves = r;
      device = leaves_device (Meaning.loan s c u) d p w r;
    }

-- LETTING GO
-- the page is leaving, as far as the meaning goes
pub recall_loosened : {v : ledger.View} {c u f d p t : ℕ} {w : Bool} {h : Hw} {es : List Event} {xs ys : List ℕ} → Coherent v → Inside h.frames v → u < 1024 → Away v c u f t (mapping d p w) →
    Holds v (nothing_cut xs ys) (Under c (Recall u)) h es → Holds (with_loan c u f (loan.Leaving (mapping d p w)) v) (nothing_cut xs ys) (Under c (Recall u)) h es
unfolding loosens use_meant loan_meant
recall_loosened {v} {c} {u} {f} {d} {p} {t} {w} {h} {es} co i lt x a =
    let s = a.state in
    let g = found s co a.kept (subst (λ (n : ℕ). Inside n v) (sym a.shape.frames_are) i) lt x in
    record {
      fits = a.fits;
      state = set_use (use_at f (Of c u (Leaving d p w)) s.what) s;
      run =
          subst (λ (l : Loan). Meaning.Run can (start_of h) es (set_use (use_at f (Of c u l) s.what) s) (Under c (Recall u))) g.leaves
          (subst (λ (j : ℕ). Meaning.Run can (start_of h) es (set_use (use_at j (Of c u (leaving (Meaning.loan s c u))) s.what) s) (Under c (Recall u))) g.frame (Meaning.loosened a.run (all_built _) g.allowed));
      shape = a.shape;
      drained_are = a.drained_are;
      undrained_are = a.undrained_are;
      kept = kept_use s a.kept f (used.PageOf c u (loan.Leaving (mapping d p w)));
      sound = subst (λ (l : Loan). SoundAt (tables_in v) (view_of (set_use (use_at f (Of c u l) s.what) s)) h) g.leaves (use_leaving a.sound f c u (Meaning.loan s c u) g.is);
      words = words_page (view_of s) a.words f c u (Meaning.loan s c u) (Of c u (Leaving d p w)) g.is;
      live = a.live;
      shown = a.shown;
      roots = a.roots;
      severed = a.severed;
      forgot = a.forgot;
    }

-- the slot of a page has a lower table
table_there : {v : ledger.View} (s : State) → Kept v s → (d i t : ℕ) → v.low d i ≡ suc t → T (s.slots d i)
table_there s k d i t e = subst T (sym (k.slots_are d i ∙ ap (λ (x : ℕ). not (eqb x 0)) e)) (other_number (suc t) 0 (λ z. omega arith))

table_is : {v : ledger.View} {n : Now} {g : Progress} {h : Hw} {es : List Event} (a : Holds v g n h es) (d i t : ℕ) → v.low d i ≡ suc t → (t < a.state.frames) × (a.state.what t ≡ TableOf d)
table_is {v} a d i t e =
    let z : v.low d i - 1 ≡ t = omega (arith, e) in
    subst (λ (x : ℕ). (x < a.state.frames) × (a.state.what x ≡ TableOf d)) z (a.sound.low d i (table_there a.state a.kept d i t e))

-- the entry of a page at which nothing is lent is cleared
pub put_cleared : {v : ledger.View} {n : Now} {g : Progress} {h : Hw} {es : List Event} (a : Holds v g n h es) (d p t : ℕ) → v.low d (p / 512) ≡ suc t →
    ((f c u : ℕ) (w : Bool) → a.state.what f ≡ Of c u (Lent d p w) → ⊥) → Holds v g n (counted (with_mem (put t (p % 512) 0 h.mem) h)) es
unfolding is_page
put_cleared {v} {n} {g} {h} {es} a d p t e unused =
    let s = a.state in
    let there = table_there s a.kept d (p / 512) t e in
    let z : v.low d (p / 512) - 1 ≡ t = omega (arith, e) in
    let k = table_is a d (p / 512) t e in
    let other = λ (j : ℕ). put_elsewhere t (p % 512) 0 h.mem 0 j (λ q. low_not_root a.sound d (p / 512) there (z ∙ sym q)) in
    record {
      fits = a.fits;
      state = s;
      run = a.run;
      shape = a.shape;
      drained_are = a.drained_are;
      undrained_are = a.undrained_are;
      kept = a.kept;
      sound = subst (λ (x : ℕ). Sound (tables_in v) (view_of s) (put x (p % 512) 0 h.mem) h.live h.ups h.mids h.leaves h.flying) z
          (put_entry a.sound d (p / 512) (p % 512) 0 there (inl refl) (λ f c u w l q. unused f c u w (q ∙ ap (λ (x : ℕ). Of c u (Lent d x w)) (page_back p))));
      words = words_put (view_of s) a.words t (p % 512) 0 (subst (λ (y : Use). T (not (is_page y))) (sym k.1) tt);
      live = a.live;
      shown = a.shown;
      roots = λ j c q. other j ∙ a.roots j c q;
      severed = λ j q. other j ∙ a.severed j q;
      forgot = a.forgot;
    }

-- LEFT: the room has the page as leaving
pub record Left (v : ledger.View) (n c u f d p t : ℕ) (w : Bool) : Type 0 where
  pub coherent : Coherent v
  pub inside : Inside n v
  pub place : u < 1024
  pub is : v.used f ≡ used.PageOf c u (loan.Leaving (mapping d p w))
  pub table : v.low d (p / 512) ≡ suc t
  pub page : Away v c u f t (mapping d p w)

-- nothing is lent where a page is leaving
left_alone : {v : ledger.View} {n c u f d p t : ℕ} {w : Bool} → Left v n c u f d p t w → (s : State) → Kept v s → (g a b : ℕ) (x : Bool) → s.what g ≡ Of a b (Lent d p x) → ⊥
unfolding use_meant loan_meant
left_alone {v} {n} {c} {u} {f} {d} {p} {t} {w} l s k g a b x e =
    let q = lent_at (v.used g) a b d p x (sym (k.uses_are g) ∙ e) in
    let r : tests.is_at d p (tests.loan_in (v.used f)) ≡ true = subst (λ (y : uses.Use). tests.is_at d p (tests.loan_in y) ≡ true) (sym l.is) (and_from (eqb d d) (eqb p p) (eq-eqb d d refl) (eq-eqb p p refl)) in
    let z : g ≡ f = l.coherent.once g f d p q r in
    let m : s.what f ≡ Of c u (Leaving d p w) = k.uses_are f ∙ ap use_meant l.is in
    let y : s.what f ≡ Of a b (Lent d p x) = ap s.what (sym z) ∙ e in
    let o : ◌≡◌ {A = ℕ} 0 1 = cc in omega arith

-- THE ANSWER
acts_home : {c u f d p : ℕ} {w : Bool} (s : State) → Found s c u f d p w → T (is_in d s.drained) → acts 0 s c (Recall u) ≡ out Done (set_use (use_at f (Of c u Home) s.what) s)
unfolding acts
acts_home {c} {u} {f} {d} {p} {w} s g t =
    let q : is_in (device_of (Meaning.loan s c u)) s.drained ≡ true = ap (λ (x : ℕ). is_in x s.drained) g.device ∙ is_true (is_in d s.drained) t in
    rw q (ap (λ (j : ℕ). out Done (set_use (use_at j (Of c u Home) s.what) s)) g.frame)

acts_later : {c u f d p : ℕ} {w : Bool} (s : State) → Found s c u f d p w → s.what f ≡ Of c u (Leaving d p w) → T (not (is_in d s.drained)) → acts 0 s c (Recall u) ≡ out Later s
unfolding acts
acts_later {c} {u} {f} {d} {p} {w} s g is t =
    let q : is_in (device_of (Meaning.loan s c u)) s.drained ≡ false = ap (λ (x : ℕ). is_in x s.drained) g.device ∙ is_false (is_in d s.drained) t in
    let k : use_at (frame_of s c u) (Of c u (leaving (Meaning.loan s c u))) s.what ≡ s.what = fun_ext (λ j. same j) in
    rw q (ap (λ (x : ℕ → Use). out Later (set_use x s)) k)
  where
    same : (j : ℕ) → use_at (frame_of s c u) (Of c u (leaving (Meaning.loan s c u))) s.what j ≡ s.what j
    same j =
        at_one (λ (x : Use). x ≡ s.what j) j (frame_of s c u) (Of c u (leaving (Meaning.loan s c u))) (s.what j)
        (λ e. ap (Of c u) g.leaves ∙ sym (ap s.what (e ∙ g.frame) ∙ is))
        (λ _. refl)

left_found : {v : ledger.View} {m : Now} {y : Progress} {h : Hw} {es : List Event} {n c u f d p t : ℕ} {w : Bool} → Left v n c u f d p t w → n ≡ h.frames → (a : Holds v y m h es) → Found a.state c u f d p w
left_found {v} l q a = found a.state l.coherent a.kept (subst (λ (n : ℕ). Inside n v) (q ∙ sym a.shape.frames_are) l.inside) l.place l.page

left_what : {v : ledger.View} {n c u f d p t : ℕ} {w : Bool} → Left v n c u f d p t w → (s : State) → Kept v s → s.what f ≡ Of c u (Leaving d p w)
unfolding use_meant loan_meant
left_what {f = f} l s k = k.uses_are f ∙ ap use_meant l.is

-- the unit has said yes: the page is home
pub recall_home : {v : ledger.View} {h : Hw} {es : List Event} {n c u f d p t : ℕ} {w : Bool} {xs ys : List ℕ} → Left v n c u f d p t w → n ≡ h.frames → h.mem t (p % 512) ≡ 0 → Forgotten d h →
    Holds v (nothing_cut (d ∷ xs) ys) (Under c (Recall u)) h es → Holds (with_loan c u f loan.Home v) (nothing_cut (d ∷ xs) ys) (Over c (Recall u) Done) h es
unfolding takes_frame excused use_meant loan_meant
recall_home {v} {h} {es} {n} {c} {u} {f} {d} {p} {t} {w} {xs} {ys} l q clear forgot a =
    let s = a.state in
    let g = left_found l q a in
    let m = left_what l s a.kept in
    let z : v.low d (p / 512) - 1 ≡ t = omega (arith, l.table) in
    let i : T (is_in d s.drained) = subst (λ (x : List ℕ). T (is_in d x)) (sym a.drained_are) (in_here d xs) in
    let j : T (is_in (device_of (Meaning.loan s c u)) s.drained) = subst (λ (x : ℕ). T (is_in x s.drained)) (sym g.device) i in
    record {
      fits = a.fits;
      state = set_use (use_at f (Of c u Home) s.what) s;
      run =
          subst (λ (o : Out). Meaning.Run can (start_of h) es o.state (Over c (Recall u) o.answer)) (acts_home s g i)
          (Meaning.acted 0 a.run (all_built _) g.allowed tt (left (is_in (device_of (Meaning.loan s c u)) s.drained) (is_in (device_of (Meaning.loan s c u)) s.undrained) j));
      shape = a.shape;
      drained_are = a.drained_are;
      undrained_are = a.undrained_are;
      kept = kept_use s a.kept f (used.PageOf c u loan.Home);
      sound = come_home a.sound f c u d p w m (ap (λ (x : ℕ). h.mem x (p % 512)) z ∙ clear) forgot.2 forgot.3;
      words = words_page (view_of s) a.words f c u (Leaving d p w) (Of c u Home) m;
      live = a.live;
      shown = a.shown;
      roots = a.roots;
      severed = a.severed;
      forgot = a.forgot;
    }

-- it has said no: the page is leaving still
pub recall_leaving : {v : ledger.View} {h : Hw} {es : List Event} {n c u f d p t : ℕ} {w : Bool} {ys : List ℕ} → Left v n c u f d p t w → n ≡ h.frames →
    Holds v (nothing_cut [] (d ∷ ys)) (Under c (Recall u)) h es → Holds v (nothing_cut [] (d ∷ ys)) (Over c (Recall u) Later) h es
unfolding takes_frame excused is_in
recall_leaving {v} {h} {es} {n} {c} {u} {f} {d} {p} {t} {w} {ys} l q a =
    let s = a.state in
    let g = left_found l q a in
    let i : T (is_in d s.undrained) = subst (λ (x : List ℕ). T (is_in d x)) (sym a.undrained_are) (in_here d ys) in
    let j : T (is_in (device_of (Meaning.loan s c u)) s.undrained) = subst (λ (x : ℕ). T (is_in x s.undrained)) (sym g.device) i in
    record {
      fits = a.fits;
      state = s;
      run =
          subst (λ (o : Out). Meaning.Run can (start_of h) es o.state (Over c (Recall u) o.answer)) (acts_later s g (left_what l s a.kept) (subst (λ (x : List ℕ). T (not (is_in d x))) (sym a.drained_are) tt))
          (Meaning.acted 0 a.run (all_built _) g.allowed tt (right (is_in (device_of (Meaning.loan s c u)) s.drained) (is_in (device_of (Meaning.loan s c u)) s.undrained) j));
      shape = a.shape;
      drained_are = a.drained_are;
      undrained_are = a.undrained_are;
      kept = a.kept;
      sound = a.sound;
      words = a.words;
      live = a.live;
      shown = a.shown;
      roots = a.roots;
      severed = a.severed;
      forgot = a.forgot;
    }

-- later may be told: no drain has said yes
pub later_told : {v : ledger.View} {h : Hw} {es : List Event} {n c u f d p t : ℕ} {w : Bool} {m : Now} {ys : List ℕ} → Left v n c u f d p t w → n ≡ h.frames → (a : Holds v (nothing_cut [] ys) m h es) → T (Meaning.may_tell a.state c (Recall u) Later)
unfolding is_later is_in
later_told {d = d} l q a =
    subst (λ (o : Out). T (is_later o.answer)) (sym (acts_later a.state (left_found l q a) (left_what l a.state a.kept) (subst (λ (x : List ℕ). T (not (is_in d x))) (sym a.drained_are) tt))) tt

-- A recall in whole.
pub recall_refused : {room : List ℕ} {who u n : ℕ} {h : Hw} {es : List Event} (e : Refusal) → n ≡ h.frames → Begins room who (Recall u) h es → RecallRefused (ledger.view_of n room) who u e → Keeps room Quiet h (Told who (Recall u) (No (number_of e)) ∷ es)
unfolding why loan_meant is_home
recall_refused {room} {who} {u} {n} {h} {es} e q b r = go e (subst (λ (z : ℕ). RecallRefused (ledger.view_of z room) who u e) q r)
  where
    v : ledger.View
    v = ledger.view_of h.frames room

    s : State
    s = b.holds.state

    i : Inside s.frames v
    i = subst (λ (z : ℕ). Inside z v) (sym b.holds.shape.frames_are) (inside_room h.frames room)

    go : (e : Refusal) → RecallRefused v who u e → Keeps room Quiet h (Told who (Recall u) (No (number_of e)) ∷ es)
    go OutOfRange x = keeps_reason OutOfRange b (rw (le-leb 1024 u x))
    go NoPage x = keeps_reason NoPage b (rw (lt-leb 1024 u x.0, is_false (has s who u) (table_at_no_page s b.tidy.coherent b.holds.kept i who u x.1)))
    go Occupied x = absurd x
    go WrongLoan x =
        let p = page_has s b.tidy.coherent b.holds.kept i who u x.1.0 x.1.1 in
        let w : Meaning.loan s who u ≡ Home = loan_there s b.tidy.coherent b.holds.kept i who u x.1.0 x.1.1 ∙ ap loan_meant x.1.2 in
        let o : is_home (Meaning.loan s who u) ≡ true = ap is_home w in
        keeps_reason WrongLoan b (rw (lt-leb 1024 u x.0, is_true (has s who u) p.0, o))
    go NotYours x = absurd x
    go Held x = absurd x
    go NoFrame x = absurd x
    go NotPermitted x = absurd x
    go NotBuilt x = absurd x

-- the page is leaving and its entry is cleared
record Unmapped (v : ledger.View) (n who u f d p t : ℕ) (w : Bool) (h : Hw) (es : List Event) : Type 0 where
  left : Left v n who u f d p t w
  frames : n ≡ h.frames
  clear : h.mem t (p % 512) ≡ 0
  holds : Holds v (nothing_cut [] []) (Under who (Recall u)) h es

table_home : (x : Use) (d : ℕ) → x ≡ TableOf d → T (is_home (loan_of x))
unfolding is_home loan_of
table_home x d e = subst (λ (y : Use). T (is_home (loan_of y))) (sym e) tt

-- a table's words stay through any steps
table_quiet : {v : ledger.View} {g : Progress} {n : Now} {h j : Hw} {es gs : List Event} (a : Holds v g n h es) (d i t k : ℕ) → v.low d i ≡ suc t → Steps h es j gs → j.mem t k ≡ h.mem t k
table_quiet a d i t k e m = steps_quiet a m t k (table_home (a.state.what t) d (table_is a d i t e).1)

unmapped : {room room2 : List ℕ} {who u n f d p t : ℕ} {w : Bool} {h i : Hw} {es fs : List Event} → n ≡ h.frames → Begins room who (Recall u) h es → u < 1024 → Away (ledger.view_of n room) who u f t (mapping d p w) →
    Consistent n room2 → ledger.view_of n room2 ≡ with_loan who u f (loan.Leaving (mapping d p w)) (ledger.view_of n room) → Steps (counted (with_mem (put t (p % 512) 0 h.mem) h)) es i fs → Unmapped (ledger.view_of n room2) n who u f d p t w i fs
unmapped {room} {room2} {who} {u} {n} {f} {d} {p} {t} {w} {h} {i} {es} {fs} q b lt x k e m =
    let v = ledger.view_of n room in
    let v2 = ledger.view_of n room2 in
    let a : Holds v (nothing_cut [] []) (Under who (Recall u)) h es = subst (λ (z : ℕ). Holds (ledger.view_of z room) (nothing_cut [] []) (Under who (Recall u)) h es) (sym q) b.holds in
    let co : Coherent v = subst (λ (z : ℕ). Coherent (ledger.view_of z room)) (sym q) b.tidy.coherent in
    let is : v2.used f ≡ used.PageOf who u (loan.Leaving (mapping d p w)) = ap (λ (z : ledger.View). z.used f) e ∙ here f (used.PageOf who u (loan.Leaving (mapping d p w))) (v.used f) in
    let table : v2.low d (p / 512) ≡ suc t = ap (λ (z : ledger.View). z.low d (p / 512)) e ∙ x.table in
    let page : Away v2 who u f t (mapping d p w) = record { shown = page_shown k.coherent who u f (loan.Leaving (mapping d p w)) is; loan = ap (λ (z : uses.Use). recalled (tests.loan_in z)) is; device = x.device; page = x.page; table = table } in
    let l : Left v2 n who u f d p t w = record { coherent = k.coherent; inside = inside_room n room2; place = lt; is = is; table = table; page = page } in
    let c : Holds v2 (nothing_cut [] []) (Under who (Recall u)) h es =
    subst (λ (z : ledger.View). Holds z (nothing_cut [] []) (Under who (Recall u)) h es) (sym e) (recall_loosened co (subst (λ (z : ℕ). Inside z v) q (inside_room n room)) lt x a)
    in
    let o = put_cleared c d p t table (left_alone l c.state c.kept) in
    record {
      left = l;
      frames = q ∙ sym (steps_same m).frames;
      clear = table_quiet o d (p / 512) t (p % 512) table m ∙ put_here t (p % 512) 0 h.mem;
      holds = holds_steps o m;
    }

-- the unit has forgotten the device: done
recall_done : {room room2 room3 : List ℕ} {who u n f d p t : ℕ} {w : Bool} {h i j : Hw} {es fs gs : List Event} → n ≡ h.frames → Begins room who (Recall u) h es → u < 1024 → Away (ledger.view_of n room) who u f t (mapping d p w) →
    Consistent n room2 → ledger.view_of n room2 ≡ with_loan who u f (loan.Leaving (mapping d p w)) (ledger.view_of n room) → Steps (counted (with_mem (put t (p % 512) 0 h.mem) h)) es i fs → Drains d i fs true j gs →
    Consistent n room3 → ledger.view_of n room3 ≡ with_loan who u f loan.Home (ledger.view_of n room2) → Keeps room3 Quiet j (Told who (Recall u) Done ∷ gs)
recall_done {d = d} {p = p} {t = t} q b lt x k e m y k3 e3 =
    let o = unmapped q b lt x k e m in
    let z = drain_split y in
    let a = holds_steps o.holds z.before in
    let c = holds_heard d true a z.forgot in
    let r = o.frames ∙ sym (steps_same z.before).frames in
    let g = recall_home o.left r (table_quiet o.holds d (p / 512) t (p % 512) o.left.table z.before ∙ o.clear) (z.forgot tt) c in
    keeps_done ((steps_same z.after).frames ∙ sym r) k3 e3 (holds_steps g z.after)

-- it has not: later
recall_later : {room room2 : List ℕ} {who u n f d p t : ℕ} {w : Bool} {h i j : Hw} {es fs gs : List Event} → n ≡ h.frames → Begins room who (Recall u) h es → u < 1024 → Away (ledger.view_of n room) who u f t (mapping d p w) →
    Consistent n room2 → ledger.view_of n room2 ≡ with_loan who u f (loan.Leaving (mapping d p w)) (ledger.view_of n room) → Steps (counted (with_mem (put t (p % 512) 0 h.mem) h)) es i fs → Drains d i fs false j gs →
    Keeps room2 Quiet j (Told who (Recall u) Later ∷ gs)
recall_later {d = d} q b lt x k e m y =
    let o = unmapped q b lt x k e m in
    let z = drain_split y in
    let c = holds_heard d false (holds_steps o.holds z.before) z.forgot in
    let r = o.frames ∙ sym (steps_same z.before).frames in
    let g = holds_steps (recall_leaving o.left r c) z.after in
    let s = (steps_same z.after).frames ∙ sym r in
    keeps_told s k refl g (later_told o.left (sym s) g)

pub recall_settled : {room room2 room3 : List ℕ} {who u n f d p t : ℕ} {w : Bool} {h i j : Hw} {es fs gs : List Event} (r : Answer) → n ≡ h.frames → Begins room who (Recall u) h es → u < 1024 → Away (ledger.view_of n room) who u f t (mapping d p w) →
    Consistent n room2 → ledger.view_of n room2 ≡ with_loan who u f (loan.Leaving (mapping d p w)) (ledger.view_of n room) → Steps (counted (with_mem (put t (p % 512) 0 h.mem) h)) es i fs → Settled n who u f d room2 room3 i fs j gs r →
    Keeps room3 Quiet j (Told who (Recall u) r ∷ gs) × IfNo r ⊥
recall_settled Done q b lt x k e m o = (recall_done q b lt x k e m o.0 o.1 o.2, tt)
recall_settled {who = who} {u = u} {j = j} {gs = gs} Later q b lt x k e m o = (subst (λ (r : List ℕ). Keeps r Quiet j (Told who (Recall u) Later ∷ gs)) (sym o.1) (recall_later q b lt x k e m o.0), tt)
recall_settled (No y) q b lt x k e m o = absurd o
