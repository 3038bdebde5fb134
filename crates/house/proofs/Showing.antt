-- regs: when it is refused, and what it makes of the room and the machine.
use Rattle.std.proofs.Common.{◌≡◌, ℕ, suc, ◌<◌, ◌≤◌, true, false, cond, not, ◌&&◌, ◌||◌, T, eqb, leb, ◌⊎◌, List, [], ◌∷◌, sym, refl, ap, ◌∙◌, subst, inl, inr}
use Rattle.std.proofs.lemmas.Bool.{lt-leb, le-leb}
use Rattle.ledger.specs.declared.Place.TheVariants as place
use Rattle.ledger.specs.declared.Device.{Device}
use Rattle.ledger.specs.declared.Device.TheVariants as device
use Rattle.ledger.specs.View as ledger
use Rattle.ledger.specs.Room.{place_of, device_of}
use Rattle.ledger.specs.Consistent.{Coherent, Consistent}
use Rattle.house.specs.declared.Call.TheVariants.{Regs}
use Rattle.house.specs.declared.Answer.TheVariants.{Done, No}
use Rattle.house.specs.declared.refusals.Refusal.{Refusal}
use Rattle.house.specs.declared.refusals.Refusal.TheVariants.{OutOfRange, NoPage, Occupied, WrongLoan, NotYours, Held, NoFrame, NotPermitted, NotBuilt}
use Rattle.house.specs.Event.{Event, Told}
use Rattle.house.specs.Machine.{Hw, Registers, Steps, shows, counted}
use Rattle.house.specs.Meaning
use Rattle.house.specs.Meaning.{State, Dev, taken, open_by, why, acts, excused, takes_frame, set_regs, Quiet, Under, Over}
use Rattle.house.specs.Kept.{Kept, dev_meant, regs_meant, shown_meant}
use Rattle.house.specs.Refusals.{number_of, RegsRefused}
use Rattle.house.specs.Serving.{nothing_cut, Holds, Keeps, Begins}
use Rattle.house.proofs.Shelf.{is_true, is_false, from_true, left, right, same_number, other_number}
use Rattle.house.proofs.Rooms.{Inside, inside_room, vacant, occupied}
use Rattle.house.proofs.Keeping.{kept_registers, shown_change}
use Rattle.house.proofs.Steps.{steps_same}
use Rattle.house.proofs.Between.{holds_steps, keeps_done, keeps_reason}
use Rattle.house.proofs.Built.{all_built}

opened_meant : (c : ℕ) (x : Device) → x ≡ device.Opened c → T (open_by c (dev_meant x))
unfolding open_by dev_meant
opened_meant c x e = rw e (same_number c c refl)

unopened_meant : (c : ℕ) (x : Device) → (x ≡ device.Opened c → ⊥) → T (not (open_by c (dev_meant x)))
unfolding open_by dev_meant
unopened_meant c device.Shut n = tt
unopened_meant c (device.Opened w) n = other_number c w (λ e. n (ap device.Opened (sym e)))
unopened_meant c (device.Closing w) n = tt

-- a device and a place that are there
in_range : (m d u : ℕ) → d < m → u < 1024 → (leb m d || leb 1024 u) ≡ false
in_range m d u x y = rw (lt-leb m d x, lt-leb 1024 u y)

out_of_range : (m d u : ℕ) → (m ≤ d) ⊎ (1024 ≤ u) → (leb m d || leb 1024 u) ≡ true
out_of_range m d u (inl x) = is_true (leb m d || leb 1024 u) (left (leb m d) (leb 1024 u) (from_true (leb m d) (le-leb m d x)))
out_of_range m d u (inr y) = is_true (leb m d || leb 1024 u) (right (leb m d) (leb 1024 u) (from_true (leb 1024 u) (le-leb 1024 u y)))

-- nothing speaks against a regs
regs_allowed : {v : ledger.View} (s : State) → Coherent v → Kept v s → Inside s.frames v → (c d u : ℕ) → d < s.devices → u < 1024 → v.place c u ≡ place.Nothing → v.device d ≡ device.Opened c → why s c (Regs d u) ≡ 0
unfolding why
regs_allowed {v} s co k i c d u b lt e x =
    rw (in_range s.devices d u b lt, is_false (taken s c u) (vacant s co k i c u e), is_true (open_by c (s.dev d)) (subst (λ (z : Dev). T (open_by c z)) (sym (k.devs_are d)) (opened_meant c (v.device d) x)))

-- the place shows the registers
regs_done : {v : ledger.View} {c d u : ℕ} {h : Hw} {es : List Event} {xs ys : List ℕ} → Coherent v → Inside h.frames v → d < h.devices → u < 1024 → v.place c u ≡ place.Nothing → v.device d ≡ device.Opened c →
    Holds v (nothing_cut xs ys) (Under c (Regs d u)) h es → Holds (ledger.with_place c u (place.Registers d) v) (nothing_cut xs ys) (Over c (Regs d u) Done) (counted (shows c u (Registers d) h)) es
unfolding acts takes_frame excused regs_meant shown_meant
regs_done {v} {c} {d} {u} {h} co i b lt e x a =
    let s = a.state in
    let i2 = subst (λ (n : ℕ). Inside n v) (sym a.shape.frames_are) i in
    let b2 = subst (λ (n : ℕ). d < n) (sym a.shape.devices_are) b in
    record {
      fits = a.fits;
      state = set_regs (λ w y. cond (eqb w c && eqb y u) (suc d) (s.regs w y)) s;
      run = Meaning.acted 0 a.run (all_built _) (regs_allowed s co a.kept i2 c d u b2 lt e x) tt tt;
      shape = a.shape;
      drained_are = a.drained_are;
      undrained_are = a.undrained_are;
      kept = kept_registers s a.kept c u (place.Registers d);
      sound = a.sound;
      words = a.words;
      live = a.live;
      shown = λ w y p q. shown_change (eqb w c && eqb y u) (Registers d) (place.Registers d) (v.place w y) (h.space w y) refl (a.shown w y p q);
      roots = a.roots;
      severed = a.severed;
      forgot = a.forgot;
    }

-- A regs in whole: refused, or done.
pub regs_refused : {room : List ℕ} {who d u m : ℕ} {h : Hw} {es : List Event} (e : Refusal) → m ≡ h.devices → Begins room who (Regs d u) h es → RegsRefused (place_of room) (device_of room) m who d u e →
    Keeps room Quiet h (Told who (Regs d u) (No (number_of e)) ∷ es)
unfolding why
regs_refused {room} {who} {d} {u} {m} {h} {es} e q b r = go e (subst (λ (z : ℕ). RegsRefused (place_of room) (device_of room) z who d u e) (q ∙ sym b.holds.shape.devices_are) r)
  where
    v : ledger.View
    v = ledger.view_of h.frames room

    s : State
    s = b.holds.state

    i : Inside s.frames v
    i = subst (λ (z : ℕ). Inside z v) (sym b.holds.shape.frames_are) (inside_room h.frames room)

    go : (e : Refusal) → RegsRefused v.place v.device s.devices who d u e → Keeps room Quiet h (Told who (Regs d u) (No (number_of e)) ∷ es)
    go OutOfRange x = keeps_reason OutOfRange b (rw (out_of_range s.devices d u x))
    go NoPage x = absurd x
    go Occupied x = keeps_reason Occupied b (rw (in_range s.devices d u x.0 x.1, is_true (taken s who u) (occupied s b.tidy.coherent b.holds.kept i who u x.2)))
    go WrongLoan x = absurd x
    go NotYours x =
        keeps_reason NotYours b
        (rw (
          in_range s.devices d u x.0 x.1,
          is_false (taken s who u) (vacant s b.tidy.coherent b.holds.kept i who u x.2),
          is_false (open_by who (s.dev d)) (subst (λ (z : Dev). T (not (open_by who z))) (sym (b.holds.kept.devs_are d)) (unopened_meant who (v.device d) x.3)),
        ))
    go Held x = absurd x
    go NoFrame x = absurd x
    go NotPermitted x = absurd x
    go NotBuilt x = absurd x

pub regs_told : {room room2 : List ℕ} {who d u n m : ℕ} {h j : Hw} {es gs : List Event} → n ≡ h.frames → m ≡ h.devices → Begins room who (Regs d u) h es → d < m → u < 1024 → place_of room who u ≡ place.Nothing → device_of room d ≡ device.Opened who →
    Consistent n room2 → ledger.view_of n room2 ≡ ledger.with_place who u (place.Registers d) (ledger.view_of n room) → Steps (counted (shows who u (Registers d) h)) es j gs → Keeps room2 Quiet j (Told who (Regs d u) Done ∷ gs)
regs_told {room} {room2} {who} {d} {u} {n} {m} {h} {j} {es} {gs} q k b lt l e x t w y =
    let v = ledger.view_of n room in
    let a : Holds v (nothing_cut [] []) (Under who (Regs d u)) h es = subst (λ (z : ℕ). Holds (ledger.view_of z room) (nothing_cut [] []) (Under who (Regs d u)) h es) (sym q) b.holds in
    let co : Coherent v = subst (λ (z : ℕ). Coherent (ledger.view_of z room)) (sym q) b.tidy.coherent in
    let done = regs_done co (subst (λ (z : ℕ). Inside z v) q (inside_room n room)) (subst (λ (z : ℕ). d < z) k lt) l e x a in
    keeps_done ((steps_same y).frames ∙ sym q) t w (holds_steps done y)
