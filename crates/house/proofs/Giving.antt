-- give: when it is refused, and what it makes of the room and the machine.
use Rattle.std.proofs.Common.{◌≡◌, ℕ, ◌<◌, ◌≤◌, Bool, true, false, cond, ◌&&◌, ◌||◌, T, eqb, leb, ◌⊎◌, List, [], ◌∷◌, sym, refl, ap, ◌∙◌, subst, inl, inr}
use Rattle.std.proofs.lemmas.Bool.{lt-leb, le-leb}
use Rattle.ledger.specs.declared.Loan.TheVariants as loan
use Rattle.ledger.specs.declared.Use.TheVariants as used
use Rattle.ledger.specs.declared.Place.{Place}
use Rattle.ledger.specs.declared.Place.TheVariants as place
use Rattle.ledger.specs.View as ledger
use Rattle.ledger.specs.Room.{place_of}
use Rattle.ledger.specs.Changes.{given_page}
use Rattle.ledger.specs.Consistent.{Coherent, Consistent}
use Rattle.house.specs.declared.Call.TheVariants.{Give}
use Rattle.house.specs.declared.Answer.TheVariants.{Done, No}
use Rattle.house.specs.declared.refusals.Refusal.{Refusal}
use Rattle.house.specs.declared.refusals.Refusal.TheVariants.{OutOfRange, NoPage, Occupied, WrongLoan, NotYours, Held, NoFrame, NotPermitted, NotBuilt}
use Rattle.house.specs.Event.{Event, Told}
use Rattle.house.specs.Machine.{Hw, Shown, Frame, Nothing, Steps, shows, counted}
use Rattle.house.specs.Meaning
use Rattle.house.specs.Meaning.{State, Home, Of, has, taken, is_home, loan, loan_of, why, acts, excused, takes_frame, use_at, set_use, Quiet, Under, Over}
use Rattle.house.specs.Promise.{can, start_of}
use Rattle.house.specs.Sound.{view_of}
use Rattle.house.specs.Kept.{Kept, use_meant, loan_meant, regs_meant, shown_meant}
use Rattle.house.specs.Refusals.{number_of, GiveRefused}
use Rattle.house.specs.Serving.{nothing_cut, Holds, Keeps, Begins}
use Rattle.house.proofs.Shelf.{is_true, is_false, from_true, left, right}
use Rattle.house.proofs.Rooms.{Inside, inside_room, vacant, occupied, page_has, page_use, table_at_no_page, loan_away}
use Rattle.house.proofs.Keeping.{kept_use, kept_place, shown_change}
use Rattle.house.proofs.Uses.{use_home}
use Rattle.house.proofs.PageWords.{words_page}
use Rattle.house.proofs.Steps.{steps_same}
use Rattle.house.proofs.Between.{holds_steps, keeps_done, keeps_reason}
use Rattle.house.proofs.Hiding.{hiding, hide_place}
use Rattle.house.proofs.Built.{all_built}

-- two places and a program that are there
in_range : (u a b : ℕ) → u < 1024 → a < 32 → b < 1024 → (leb 1024 u || leb 32 a || leb 1024 b) ≡ false
in_range u a b x y z = rw (lt-leb 1024 u x, lt-leb 32 a y, lt-leb 1024 b z)

out_of_range : (u a b : ℕ) → (1024 ≤ u) ⊎ ((32 ≤ a) ⊎ (1024 ≤ b)) → (leb 1024 u || leb 32 a || leb 1024 b) ≡ true
out_of_range u a b x = is_true (leb 1024 u || leb 32 a || leb 1024 b) (go x)
  where
    go : (1024 ≤ u) ⊎ ((32 ≤ a) ⊎ (1024 ≤ b)) → T (leb 1024 u || leb 32 a || leb 1024 b)
    go (inl x) = left (leb 1024 u || leb 32 a) (leb 1024 b) (left (leb 1024 u) (leb 32 a) (from_true (leb 1024 u) (le-leb 1024 u x)))
    go (inr (inl x)) = left (leb 1024 u || leb 32 a) (leb 1024 b) (right (leb 1024 u) (leb 32 a) (from_true (leb 32 a) (le-leb 32 a x)))
    go (inr (inr x)) = right (leb 1024 u || leb 32 a) (leb 1024 b) (from_true (leb 1024 b) (le-leb 1024 b x))

-- a place that is hidden already is as the room has it without the page
hidden_meant : (t : Bool) (x : Shown) (p : Place) → x ≡ cond (t || false) Nothing (shown_meant p) → x ≡ shown_meant (cond t place.Nothing p)
unfolding shown_meant
hidden_meant true x p e = e
hidden_meant false x p e = e

-- nothing speaks against a give
give_allowed : {v : ledger.View} (s : State) → Coherent v → Kept v s → Inside s.frames v → (c u a b f : ℕ) → u < 1024 → a < 32 → b < 1024 → v.place c u ≡ place.Page f → v.place a b ≡ place.Nothing → v.used f ≡ used.PageOf c u loan.Home →
    why s c (Give u a b) ≡ 0
unfolding why loan_of is_home loan_meant
give_allowed s co k i c u a b f x y z e n m =
    let q = page_has s co k i c u f e in
    let w : s.what f ≡ Of c u Home = page_use s co k i c u f loan.Home m in
    rw (in_range u a b x y z, is_true (has s c u) q.0, is_false (taken s a b) (vacant s co k i a b n), q.1, w)

-- the old place is hidden already: the page is shown at the new one
give_done : {v : ledger.View} {c u a b f : ℕ} {h : Hw} {es : List Event} {xs ys : List ℕ} → Coherent v → Inside h.frames v → u < 1024 → a < 32 → b < 1024 → v.place c u ≡ place.Page f → v.place a b ≡ place.Nothing →
    v.used f ≡ used.PageOf c u loan.Home → Holds v (hiding c u (nothing_cut xs ys)) (Under c (Give u a b)) h es → Holds (given_page c u a b f v) (nothing_cut xs ys) (Over c (Give u a b) Done) (counted (shows a b (Frame f) h)) es
unfolding acts takes_frame excused use_meant loan_meant regs_meant shown_meant
give_done {v} {c} {u} {a} {b} {f} {h} {es} co i x y z e n m o =
    let s = o.state in
    let i2 = subst (λ (k : ℕ). Inside k v) (sym o.shape.frames_are) i in
    let w = give_allowed s co o.kept i2 c u a b f x y z e n m in
    let q = page_has s co o.kept i2 c u f e in
    let p : s.what f ≡ Of c u Home = page_use s co o.kept i2 c u f loan.Home m in
    let given = set_use (use_at f (Of a b Home) s.what) s in
    let moved = kept_place given (kept_use s o.kept f (used.PageOf a b loan.Home)) c u place.Nothing (o.kept.regs_are c u ∙ ap regs_meant e) in
    record {
      fits = o.fits;
      state = given;
      run = subst (λ (g : ℕ). Meaning.Run can (start_of h) es (set_use (use_at g (Of a b Home) s.what) s) (Over c (Give u a b) Done)) q.1 (Meaning.acted 0 o.run (all_built _) w tt tt);
      shape = o.shape;
      drained_are = o.drained_are;
      undrained_are = o.undrained_are;
      kept = kept_place given moved a b (place.Page f) (o.kept.regs_are a b ∙ ap regs_meant n);
      sound = use_home o.sound f (Of c u Home) (Of a b Home) p tt tt;
      words = words_page (view_of s) o.words f c u Home (Of a b Home) p;
      live = o.live;
      shown = λ d k l r.
          shown_change (eqb d a && eqb k b) (Frame f) (place.Page f) (cond (eqb d c && eqb k u) place.Nothing (v.place d k)) (h.space d k) refl
          (hidden_meant (eqb d c && eqb k u) (h.space d k) (v.place d k) (o.shown d k l r));
      roots = o.roots;
      severed = o.severed;
      forgot = o.forgot;
    }

-- A give in whole: refused, or done.
pub give_refused : {room : List ℕ} {who u a b n : ℕ} {h : Hw} {es : List Event} (e : Refusal) → n ≡ h.frames → Begins room who (Give u a b) h es → GiveRefused (ledger.view_of n room) who u a b e →
    Keeps room Quiet h (Told who (Give u a b) (No (number_of e)) ∷ es)
unfolding why
give_refused {room} {who} {u} {a} {b} {n} {h} {es} e q g r = go e (subst (λ (z : ℕ). GiveRefused (ledger.view_of z room) who u a b e) q r)
  where
    v : ledger.View
    v = ledger.view_of h.frames room

    s : State
    s = g.holds.state

    i : Inside s.frames v
    i = subst (λ (z : ℕ). Inside z v) (sym g.holds.shape.frames_are) (inside_room h.frames room)

    co : Coherent v
    co = g.tidy.coherent

    k : Kept v s
    k = g.holds.kept

    go : (e : Refusal) → GiveRefused v who u a b e → Keeps room Quiet h (Told who (Give u a b) (No (number_of e)) ∷ es)
    go OutOfRange x = keeps_reason OutOfRange g (rw (out_of_range u a b x))
    go NoPage x = keeps_reason NoPage g (rw (in_range u a b x.0 x.1 x.2, is_false (has s who u) (table_at_no_page s co k i who u x.3)))
    go Occupied x =
        keeps_reason Occupied g
        (rw (in_range u a b x.0 x.1 x.2, is_true (has s who u) (page_has s co k i who u x.3.0 x.3.1).0, is_true (taken s a b) (occupied s co k i a b x.4)))
    go WrongLoan x =
        let p = page_has s co k i who u x.4.0 x.4.1 in
        let w = loan_away s co k i who u x.4.0 x.4.1 x.4.2 in
        keeps_reason WrongLoan g
        (rw (in_range u a b x.0 x.1 x.2, is_true (has s who u) p.0, is_false (taken s a b) (vacant s co k i a b x.3), is_false (is_home (loan s who u)) w))
    go NotYours x = absurd x
    go Held x = absurd x
    go NoFrame x = absurd x
    go NotPermitted x = absurd x
    go NotBuilt x = absurd x

pub give_told : {room room2 : List ℕ} {who u a b n f : ℕ} {h i j : Hw} {es fs gs : List Event} → n ≡ h.frames → Begins room who (Give u a b) h es → u < 1024 → a < 32 → b < 1024 → place_of room who u ≡ place.Page f → place_of room a b ≡ place.Nothing →
    (ledger.view_of n room).used f ≡ used.PageOf who u loan.Home → Steps (counted (shows who u Nothing h)) es i fs → Consistent n room2 → ledger.view_of n room2 ≡ given_page who u a b f (ledger.view_of n room) →
    Steps (counted (shows a b (Frame f) i)) fs j gs → Keeps room2 Quiet j (Told who (Give u a b) Done ∷ gs)
give_told {room} {room2} {who} {u} {a} {b} {n} {f} {h} {i} {j} {es} {fs} {gs} q g x y z e l m k t w r =
    let v = ledger.view_of n room in
    let o : Holds v (nothing_cut [] []) (Under who (Give u a b)) h es = subst (λ (z : ℕ). Holds (ledger.view_of z room) (nothing_cut [] []) (Under who (Give u a b)) h es) (sym q) g.holds in
    let co : Coherent v = subst (λ (z : ℕ). Coherent (ledger.view_of z room)) (sym q) g.tidy.coherent in
    let hid = holds_steps (hide_place who u o) k in
    let p = (steps_same k).frames ∙ sym q in
    let done = give_done co (subst (λ (z : ℕ). Inside z v) (sym p) (inside_room n room)) x y z e l m hid in
    keeps_done ((steps_same r).frames ∙ p) t w (holds_steps done r)
