-- get and free: when each is refused, and what it makes of the room and the machine.
use Rattle.std.proofs.Common.{◌≡◌, ℕ, ◌<◌, ◌&&◌, eqb, List, [], ◌∷◌, sym, refl, ap, ◌∙◌, subst}
use Rattle.std.proofs.lemmas.Bool.{lt-leb, le-leb, lt-ltb}
use Rattle.ledger.specs.declared.Loan.TheVariants as loan
use Rattle.ledger.specs.declared.Use.TheVariants as used
use Rattle.ledger.specs.declared.Place.TheVariants as place
use Rattle.ledger.specs.View as ledger
use Rattle.ledger.specs.Room.{use_of, place_of}
use Rattle.ledger.specs.Changes.{new_page, freed_page}
use Rattle.ledger.specs.Consistent.{Coherent, Consistent}
use Rattle.house.specs.declared.Call.TheVariants.{Get, Free}
use Rattle.house.specs.declared.Answer.TheVariants.{Done, No}
use Rattle.house.specs.declared.refusals.Refusal.{Refusal}
use Rattle.house.specs.declared.refusals.Refusal.TheVariants.{OutOfRange, NoPage, Occupied, WrongLoan, NotYours, Held, NoFrame, NotPermitted, NotBuilt}
use Rattle.house.specs.Event.{Event, Told}
use Rattle.house.specs.Machine.{Hw, Frame, Nothing, Steps, shows, counted}
use Rattle.house.specs.Meaning
use Rattle.house.specs.Meaning.{State, Home, Of, Idle, has, taken, full, idle, is_home, loan, loan_of, frame_of, why, acts, excused, takes_frame, gets, use_at, set_use, Quiet, Under, Over}
use Rattle.house.specs.Promise.{can, start_of}
use Rattle.house.specs.Sound.{view_of, is_page}
use Rattle.house.specs.Kept.{Kept, use_meant, loan_meant, regs_meant, shown_meant}
use Rattle.house.specs.Operations.{Cleared}
use Rattle.house.specs.Refusals.{number_of, GetRefused, FreeRefused}
use Rattle.house.specs.Serving.{nothing_cut, Holds, Keeps, Begins}
use Rattle.house.proofs.Shelf.{is_true, is_false}
use Rattle.house.proofs.Rooms.{Inside, inside_room, vacant, occupied, idle_frame, page_has, page_use, table_at_no_page, no_idle, loan_away}
use Rattle.house.proofs.Keeping.{kept_use, kept_place, shown_change}
use Rattle.house.proofs.Uses.{use_home}
use Rattle.house.proofs.PageWords.{words_get, words_none}
use Rattle.house.proofs.Steps.{steps_same}
use Rattle.house.proofs.Between.{holds_steps, keeps_done, keeps_reason}
use Rattle.house.proofs.Idle.{idle_meant, clears_idle}
use Rattle.house.proofs.Built.{all_built}

-- nothing speaks against a get
pub get_allowed : {v : ledger.View} (s : State) → Coherent v → Kept v s → Inside s.frames v → (c u f : ℕ) → u < 1024 → v.place c u ≡ place.Nothing → f < s.frames → v.used f ≡ used.Idle → why s c (Get u) ≡ 0
unfolding why
get_allowed s co k i c u f lt e b x =
    rw (lt-leb 1024 u lt, is_false (taken s c u) (vacant s co k i c u e), is_false (full s) (idle_frame s co k i f b x).1)

-- an idle frame that is noughts becomes a page, and its place shows it
pub get_done : {v : ledger.View} {c u f : ℕ} {h : Hw} {es : List Event} {xs ys : List ℕ} → Coherent v → Inside h.frames v → u < 1024 → v.place c u ≡ place.Nothing → f < h.frames → v.used f ≡ used.Idle →
    ((k : ℕ) → k < 512 → h.mem f k ≡ 0) → Holds v (nothing_cut xs ys) (Under c (Get u)) h es → Holds (new_page c u f v) (nothing_cut xs ys) (Over c (Get u) Done) (counted (shows c u (Frame f) h)) es
unfolding acts takes_frame excused use_meant loan_meant regs_meant shown_meant
get_done {v} {c} {u} {f} {h} co i lt e b x z a =
    let s = a.state in
    let i2 = subst (λ (n : ℕ). Inside n v) (sym a.shape.frames_are) i in
    let b2 = subst (λ (n : ℕ). f < n) (sym a.shape.frames_are) b in
    let w = get_allowed s co a.kept i2 c u f lt e b2 x in
    let r : s.regs c u ≡ 0 = a.kept.regs_are c u ∙ ap regs_meant e in
    let m = idle_meant a f x in
    record {
      fits = a.fits;
      state = gets c u f s;
      run = Meaning.acted f a.run (all_built _) w (idle_frame s co a.kept i2 f b2 x).0 tt;
      shape = a.shape;
      drained_are = a.drained_are;
      undrained_are = a.undrained_are;
      kept = kept_place (gets c u f s) (kept_use s a.kept f (used.PageOf c u loan.Home)) c u (place.Page f) r;
      sound = use_home a.sound f Idle (Of c u Home) m tt tt;
      words = words_get (view_of s) a.words f (Of c u Home) z;
      live = a.live;
      shown = λ d y p q. shown_change (eqb d c && eqb y u) (Frame f) (place.Page f) (v.place d y) (h.space d y) refl (a.shown d y p q);
      roots = a.roots;
      severed = a.severed;
      forgot = a.forgot;
    }

-- nothing speaks against a free
pub free_allowed : {v : ledger.View} (s : State) → Coherent v → Kept v s → Inside s.frames v → (c u f : ℕ) → u < 1024 → v.place c u ≡ place.Page f → v.used f ≡ used.PageOf c u loan.Home → why s c (Free u) ≡ 0
unfolding why loan_of is_home loan_meant
free_allowed s co k i c u f lt e x =
    let q = page_has s co k i c u f e in
    let w : s.what f ≡ Of c u Home = page_use s co k i c u f loan.Home x in
    rw (lt-leb 1024 u lt, is_true (has s c u) q.0, q.1, w)

-- a page at home becomes idle, and its place shows nothing
pub free_done : {v : ledger.View} {c u f : ℕ} {h : Hw} {es : List Event} {xs ys : List ℕ} → Coherent v → Inside h.frames v → u < 1024 → v.place c u ≡ place.Page f → v.used f ≡ used.PageOf c u loan.Home →
    Holds v (nothing_cut xs ys) (Under c (Free u)) h es → Holds (freed_page c u f v) (nothing_cut xs ys) (Over c (Free u) Done) (counted (shows c u Nothing h)) es
unfolding acts takes_frame excused use_meant loan_meant regs_meant shown_meant is_page
free_done {v} {c} {u} {f} {h} {es} {xs} {ys} co i lt e x a =
    let s = a.state in
    let i2 = subst (λ (n : ℕ). Inside n v) (sym a.shape.frames_are) i in
    let w = free_allowed s co a.kept i2 c u f lt e x in
    let q = page_has s co a.kept i2 c u f e in
    let r : s.regs c u ≡ 0 = a.kept.regs_are c u ∙ ap regs_meant e in
    let m : s.what f ≡ Of c u Home = page_use s co a.kept i2 c u f loan.Home x in
    record {
      fits = a.fits;
      state = set_use (use_at f Idle s.what) s;
      run = subst (λ (g : ℕ). Meaning.Run can (start_of h) es (set_use (use_at g Idle s.what) s) (Over c (Free u) Done)) q.1 (Meaning.acted 0 a.run (all_built _) w tt tt);
      shape = a.shape;
      drained_are = a.drained_are;
      undrained_are = a.undrained_are;
      kept = kept_place (set_use (use_at f Idle s.what) s) (kept_use s a.kept f used.Idle) c u place.Nothing r;
      sound = use_home a.sound f (Of c u Home) Idle m tt tt;
      words = words_none (view_of s) a.words f Idle tt;
      live = a.live;
      shown = λ d y p q. shown_change (eqb d c && eqb y u) Nothing place.Nothing (v.place d y) (h.space d y) refl (a.shown d y p q);
      roots = a.roots;
      severed = a.severed;
      forgot = a.forgot;
    }

-- A get in whole: refused, or done.
pub get_refused : {room : List ℕ} {who u n : ℕ} {h : Hw} {es : List Event} (e : Refusal) → n ≡ h.frames → Begins room who (Get u) h es → GetRefused (ledger.view_of n room) n who u e → Keeps room Quiet h (Told who (Get u) (No (number_of e)) ∷ es)
unfolding why
get_refused {room} {who} {u} {n} {h} {es} e q b r = go e (subst (λ (z : ℕ). GetRefused (ledger.view_of z room) z who u e) q r)
  where
    v : ledger.View
    v = ledger.view_of h.frames room

    s : State
    s = b.holds.state

    i : Inside s.frames v
    i = subst (λ (z : ℕ). Inside z v) (sym b.holds.shape.frames_are) (inside_room h.frames room)

    go : (e : Refusal) → GetRefused v h.frames who u e → Keeps room Quiet h (Told who (Get u) (No (number_of e)) ∷ es)
    go OutOfRange x = keeps_reason OutOfRange b (rw (le-leb 1024 u x))
    go NoPage x = absurd x
    go Occupied x = keeps_reason Occupied b (rw (lt-leb 1024 u x.0, is_true (taken s who u) (occupied s b.tidy.coherent b.holds.kept i who u x.1)))
    go WrongLoan x = absurd x
    go NotYours x = absurd x
    go Held x = absurd x
    go NoFrame x =
        keeps_reason NoFrame b
        (rw (
          lt-leb 1024 u x.0,
          is_false (taken s who u) (vacant s b.tidy.coherent b.holds.kept i who u x.1),
          is_true (full s) (no_idle s b.tidy.coherent b.holds.kept i (λ f lt. x.2 f (subst (λ (z : ℕ). f < z) b.holds.shape.frames_are lt))),
        ))
    go NotPermitted x = absurd x
    go NotBuilt x = absurd x

-- an idle frame of the room, as the view has it
pub idle_seen : (room : List ℕ) (n f : ℕ) → f < n → use_of room f ≡ used.Idle → (ledger.view_of n room).used f ≡ used.Idle
idle_seen room n f lt e = rw (lt-ltb f n lt) e

pub get_told : {room room2 : List ℕ} {who u n f r : ℕ} {h i j : Hw} {es fs gs : List Event} → n ≡ h.frames → Begins room who (Get u) h es → u < 1024 → place_of room who u ≡ place.Nothing → f < n → use_of room f ≡ used.Idle →
    Cleared f h es 512 i fs → Consistent n room2 → ledger.view_of n room2 ≡ new_page who u f (ledger.view_of n room) → r ≡ f → Steps (counted (shows who u (Frame r) i)) fs j gs → Keeps room2 Quiet j (Told who (Get u) Done ∷ gs)
get_told {room} {room2} {who} {u} {n} {f} {r} {h} {i} {j} {es} {fs} {gs} q b lt e l x c t w y2 m2 =
    let m = subst (λ (z : ℕ). Steps (counted (shows who u (Frame z) i)) fs j gs) y2 m2 in
    let v = ledger.view_of n room in
    let a : Holds v (nothing_cut [] []) (Under who (Get u)) h es = subst (λ (z : ℕ). Holds (ledger.view_of z room) (nothing_cut [] []) (Under who (Get u)) h es) (sym q) b.holds in
    let co : Coherent v = subst (λ (z : ℕ). Coherent (ledger.view_of z room)) (sym q) b.tidy.coherent in
    let y = idle_seen room n f l x in
    let o = clears_idle a y c.words in
    let z = c.frames ∙ sym q in
    let d = get_done co (subst (λ (k : ℕ). Inside k v) (sym z) (inside_room n room)) lt e (subst (λ (k : ℕ). f < k) (sym z) l) y o.zeros o.holds in
    keeps_done ((steps_same m).frames ∙ z) t w (holds_steps d m)

-- A free in whole.
pub free_refused : {room : List ℕ} {who u n : ℕ} {h : Hw} {es : List Event} (e : Refusal) → n ≡ h.frames → Begins room who (Free u) h es → FreeRefused (ledger.view_of n room) who u e → Keeps room Quiet h (Told who (Free u) (No (number_of e)) ∷ es)
unfolding why
free_refused {room} {who} {u} {n} {h} {es} e q b r = go e (subst (λ (z : ℕ). FreeRefused (ledger.view_of z room) who u e) q r)
  where
    v : ledger.View
    v = ledger.view_of h.frames room

    s : State
    s = b.holds.state

    i : Inside s.frames v
    i = subst (λ (z : ℕ). Inside z v) (sym b.holds.shape.frames_are) (inside_room h.frames room)

    go : (e : Refusal) → FreeRefused v who u e → Keeps room Quiet h (Told who (Free u) (No (number_of e)) ∷ es)
    go OutOfRange x = keeps_reason OutOfRange b (rw (le-leb 1024 u x))
    go NoPage x = keeps_reason NoPage b (rw (lt-leb 1024 u x.0, is_false (has s who u) (table_at_no_page s b.tidy.coherent b.holds.kept i who u x.1)))
    go Occupied x = absurd x
    go WrongLoan x =
        let p = page_has s b.tidy.coherent b.holds.kept i who u x.1.0 x.1.1 in
        let w = loan_away s b.tidy.coherent b.holds.kept i who u x.1.0 x.1.1 x.1.2 in
        keeps_reason WrongLoan b (rw (lt-leb 1024 u x.0, is_true (has s who u) p.0, is_false (is_home (loan s who u)) w))
    go NotYours x = absurd x
    go Held x = absurd x
    go NoFrame x = absurd x
    go NotPermitted x = absurd x
    go NotBuilt x = absurd x

pub free_told : {room room2 : List ℕ} {who u n f : ℕ} {h j : Hw} {es gs : List Event} → n ≡ h.frames → Begins room who (Free u) h es → u < 1024 → place_of room who u ≡ place.Page f → (ledger.view_of n room).used f ≡ used.PageOf who u loan.Home →
    Consistent n room2 → ledger.view_of n room2 ≡ freed_page who u f (ledger.view_of n room) → Steps (counted (shows who u Nothing h)) es j gs → Keeps room2 Quiet j (Told who (Free u) Done ∷ gs)
free_told {room} {room2} {who} {u} {n} {f} {h} {j} {es} {gs} q b lt e x t w m =
    let v = ledger.view_of n room in
    let a : Holds v (nothing_cut [] []) (Under who (Free u)) h es = subst (λ (z : ℕ). Holds (ledger.view_of z room) (nothing_cut [] []) (Under who (Free u)) h es) (sym q) b.holds in
    let co : Coherent v = subst (λ (z : ℕ). Coherent (ledger.view_of z room)) (sym q) b.tidy.coherent in
    let d = free_done co (subst (λ (k : ℕ). Inside k v) q (inside_room n room)) lt e x a in
    keeps_done ((steps_same m).frames ∙ sym q) t w (holds_steps d m)
