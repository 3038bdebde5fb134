-- open: when it is refused, and what it makes of the room and the machine.
use Rattle.std.proofs.Common.{◌≡◌, ℕ, suc, ◌+◌, ◌<◌, true, cond, not, ◌&&◌, ◌||◌, T, eqb, ◌⊎◌, List, [], ◌∷◌, sym, refl, ap, ◌∙◌, subst, inl, inr, ⊎_elim, add-one, eqb→eq}
use Rattle.std.proofs.lemmas.Bool.{false≢true, lt-leb, le-leb, cases_eq, eq-eqb, ne_eqb}
use Rattle.ledger.specs.declared.Which.TheVariants as which
use Rattle.ledger.specs.declared.Use.TheVariants as used
use Rattle.ledger.specs.declared.Device.{Device}
use Rattle.ledger.specs.declared.Device.TheVariants as device
use Rattle.ledger.specs.View as ledger
use Rattle.ledger.specs.Room.{use_of, device_of}
use Rattle.ledger.specs.Uses.{held_by_other}
use Rattle.ledger.specs.Changes.{opened_by}
use Rattle.ledger.specs.Consistent.{Coherent, Consistent}
use Rattle.house.specs.declared.Call.TheVariants.{Open}
use Rattle.house.specs.declared.Answer.TheVariants.{Done, No}
use Rattle.house.specs.declared.refusals.Refusal.{Refusal}
use Rattle.house.specs.declared.refusals.Refusal.TheVariants.{OutOfRange, NoPage, Occupied, WrongLoan, NotYours, Held, NoFrame, NotPermitted, NotBuilt}
use Rattle.house.specs.Event.{Event, Told}
use Rattle.house.specs.Machine.{Hw, Steps, with_mem, put, counted}
use Rattle.house.specs.Meaning
use Rattle.house.specs.Meaning.{State, TableOf, Idle, Use, Dev, Opened, is_shut, owner_is, foreign, full, why, acts, excused, takes_frame, use_at, set_use, set_dev, Quiet, Under, Over}
use Rattle.house.specs.Sound.{view_of, is_page, Shape}
use Rattle.house.specs.Kept.{Kept, use_meant, dev_meant}
use Rattle.house.specs.Operations.{Clears, Cleared}
use Rattle.house.specs.Refusals.{number_of, GroupHeld, GroupFree, OpenRefused}
use Rattle.house.specs.Serving.{nothing_cut, Holds, Keeps, Begins}
use Rattle.house.proofs.Shelf.{both, pair, nor, left, right, is_true, is_false, from_true, same_number, any_from, none_any, there}
use Rattle.house.proofs.Rooms.{Inside, inside_room, idle_frame, no_idle}
use Rattle.house.proofs.Keeping.{kept_use, kept_device, kept_top}
use Rattle.house.proofs.Tables.{open_device}
use Rattle.house.proofs.PageWords.{words_put, words_none}
use Rattle.house.proofs.Steps.{steps_same}
use Rattle.house.proofs.Between.{holds_steps, keeps_done, keeps_reason}
use Rattle.house.proofs.Idle.{idle_meant, clears_idle}
use Rattle.house.proofs.Getting.{idle_seen}
use Rattle.house.proofs.Built.{all_built}

-- a device that another program holds
other_meant : (c : ℕ) (x : Device) → T (not (is_shut (dev_meant x))) → T (not (owner_is c (dev_meant x))) → held_by_other c x ≡ true
unfolding is_shut owner_is dev_meant
other_meant c device.Shut s t = absurd s
other_meant c (device.Opened w) s t = is_true (not (eqb c w)) t
other_meant c (device.Closing w) s t = is_true (not (eqb c w)) t

meant_other : (c : ℕ) (x : Device) → held_by_other c x ≡ true → T (not (is_shut (dev_meant x))) × T (not (owner_is c (dev_meant x)))
unfolding is_shut owner_is dev_meant
meant_other c device.Shut e = absurd (false≢true e)
meant_other c (device.Opened w) e = (tt, from_true (not (eqb c w)) e)
meant_other c (device.Closing w) e = (tt, from_true (not (eqb c w)) e)

unshut : (x : Device) → (x ≡ device.Shut → ⊥) → T (not (is_shut (dev_meant x)))
unfolding is_shut dev_meant
unshut device.Shut n = absurd (n refl)
unshut (device.Opened w) n = tt
unshut (device.Closing w) n = tt

shut_meant : (x : Device) → x ≡ device.Shut → T (is_shut (dev_meant x)) × T (not (not (is_shut (dev_meant x))))
unfolding is_shut dev_meant
shut_meant x e = rw e (tt, tt)

module _ {v : ledger.View} (s : State) (k : Kept v s) (c d : ℕ) where
  -- whether a device of the group is held by another program, in the words of the meaning
  group_free : GroupFree v.device s.devices s.group c d → T (not (foreign s c d))
  group_free g = none_any s.devices (λ (e : ℕ). eqb (s.group e) (s.group d) && not (is_shut (s.dev e)) && not (owner_is c (s.dev e))) (λ e lt t.
      let p = both (eqb (s.group e) (s.group d) && not (is_shut (s.dev e))) (not (owner_is c (s.dev e))) t in
      let q = both (eqb (s.group e) (s.group d)) (not (is_shut (s.dev e))) p.0 in
      g e lt (eqb→eq (s.group e) (s.group d) q.0) (other_meant c (v.device e) (subst (λ (x : Dev). T (not (is_shut x))) (k.devs_are e) q.1) (subst (λ (x : Dev). T (not (owner_is c x))) (k.devs_are e) p.1)))

  group_held : GroupHeld v.device s.devices s.group c d → T (foreign s c d)
  group_held g =
      let e = g.0 in
      let m = meant_other c (v.device e) g.3 in
      any_from s.devices (λ (e : ℕ). eqb (s.group e) (s.group d) && not (is_shut (s.dev e)) && not (owner_is c (s.dev e))) e g.1
      (pair (eqb (s.group e) (s.group d) && not (is_shut (s.dev e))) (not (owner_is c (s.dev e)))
      (pair (eqb (s.group e) (s.group d)) (not (is_shut (s.dev e))) (same_number (s.group e) (s.group d) g.2) (subst (λ (x : Dev). T (not (is_shut x))) (sym (k.devs_are e)) m.0))
      (subst (λ (x : Dev). T (not (owner_is c x))) (sym (k.devs_are e)) m.1))

  -- whether the device may be opened, as far as others hold devices
  free_to_open : v.device d ≡ device.Shut → GroupFree v.device s.devices s.group c d → T (not (not (is_shut (s.dev d)) || foreign s c d))
  free_to_open e g = nor (not (is_shut (s.dev d))) (foreign s c d) (subst (λ (x : Dev). T (not (not (is_shut x)))) (sym (k.devs_are d)) (shut_meant (v.device d) e).1) (group_free g)

  held_by_some : (v.device d ≡ device.Shut → ⊥) ⊎ GroupHeld v.device s.devices s.group c d → T (not (is_shut (s.dev d)) || foreign s c d)
  held_by_some (inl n) = left (not (is_shut (s.dev d))) (foreign s c d) (subst (λ (x : Dev). T (not (is_shut x))) (sym (k.devs_are d)) (unshut (v.device d) n))
  held_by_some (inr g) = right (not (is_shut (s.dev d))) (foreign s c d) (group_held g)

-- nothing speaks against an open
open_allowed : {v : ledger.View} (s : State) → Coherent v → Kept v s → Inside s.frames v → (c d f : ℕ) → d < s.devices → s.driver d ≡ c → v.device d ≡ device.Shut → GroupFree v.device s.devices s.group c d →
    f < s.frames → v.used f ≡ used.Idle → why s c (Open d) ≡ 0
unfolding why
open_allowed s co k i c d f lt e x g b y =
    rw (lt-leb s.devices d lt, eq-eqb (s.driver d) c e, is_false (not (is_shut (s.dev d)) || foreign s c d) (free_to_open s k c d x g), is_false (full s) (idle_frame s co k i f b y).1)

-- an idle frame that is noughts becomes the upper table of the device, and frame 0 has it
open_done : {v : ledger.View} {c d f : ℕ} {h : Hw} {es : List Event} {xs ys : List ℕ} → Coherent v → Inside h.frames v → d < h.devices → h.driver d ≡ c → v.device d ≡ device.Shut → GroupFree v.device h.devices h.group c d →
    f < h.frames → v.used f ≡ used.Idle → ((k : ℕ) → k < 512 → h.mem f k ≡ 0) → Holds v (nothing_cut xs ys) (Under c (Open d)) h es →
    Holds (opened_by c d f v) (nothing_cut xs ys) (Over c (Open d) Done) (counted (with_mem (put 0 d (suc f) h.mem) h)) es
unfolding acts takes_frame excused use_meant dev_meant is_page
open_done {v} {c} {d} {f} {h} co i lt e x g b y z a =
    let s = a.state in
    let i2 = subst (λ (n : ℕ). Inside n v) (sym a.shape.frames_are) i in
    let b2 = subst (λ (n : ℕ). f < n) (sym a.shape.frames_are) b in
    let l2 = subst (λ (n : ℕ). d < n) (sym a.shape.devices_are) lt in
    let e2 : s.driver d ≡ c = ap (λ (k : ℕ → ℕ). k d) a.shape.driver_is ∙ e in
    let g2 = subst (λ (n : ℕ). GroupFree v.device n s.group c d) (sym a.shape.devices_are) (subst (λ (k : ℕ → ℕ). GroupFree v.device h.devices k c d) (sym a.shape.group_is) g) in
    let w = open_allowed s co a.kept i2 c d f l2 e2 x g2 b2 y in
    let m = idle_meant a f y in
    let table = set_use (use_at f (TableOf d) s.what) s in
    let shut = subst (λ (k : Dev). T (is_shut k)) (sym (a.kept.devs_are d)) (shut_meant (v.device d) x).0 in
    record {
      fits = a.fits;
      state = set_dev (λ k. cond (eqb k d) (Opened c) (s.dev k)) table;
      run = Meaning.acted f a.run (all_built _) w (idle_frame s co a.kept i2 f b2 y).0 tt;
      shape = a.shape;
      drained_are = a.drained_are;
      undrained_are = a.undrained_are;
      kept = kept_device table (kept_top table (kept_use s a.kept f (used.TableOf d which.Upper)) d f) d (device.Opened c);
      sound = open_device a.sound f d c b2 m z l2 shut;
      words = words_none (view_of s) (words_put (view_of s) a.words 0 d (suc f) (subst (λ (u : Use). T (not (is_page u))) (sym a.sound.house) tt)) f (TableOf d) tt;
      live = a.live;
      shown = a.shown;
      roots = λ k o q. ⊎_elim
          (λ (r : k ≡ d). rw (eq-eqb k d r))
          (λ (r : k ≡ d → ⊥). let old = a.roots k o (sym (there k d (device.Opened c) (v.device k) r) ∙ q) in rw (ne_eqb k d r) old)
          (cases_eq k d);
      severed = λ k t. absurd t;
      forgot = λ k t n. absurd t;
    }

-- An open in whole: refused, or done.
pub open_refused : {room : List ℕ} {who d : ℕ} {h : Hw} {es : List Event} (e : Refusal) → Begins room who (Open d) h es → OpenRefused (ledger.view_of h.frames room) h.frames h.devices h.group h.driver who d e →
    Keeps room Quiet h (Told who (Open d) (No (number_of e)) ∷ es)
unfolding why
open_refused {room} {who} {d} {h} {es} e b r =
    go e
    (subst (λ (z : ℕ). OpenRefused v z s.devices s.group s.driver who d e) (sym q.frames_are)
    (subst (λ (z : ℕ). OpenRefused v h.frames z s.group s.driver who d e) (sym q.devices_are)
    (subst (λ (z : ℕ → ℕ). OpenRefused v h.frames h.devices z s.driver who d e) (sym q.group_is)
    (subst (λ (z : ℕ → ℕ). OpenRefused v h.frames h.devices h.group z who d e) (sym q.driver_is) r))))
  where
    v : ledger.View
    v = ledger.view_of h.frames room

    s : State
    s = b.holds.state

    q : Shape s h
    q = b.holds.shape

    i : Inside s.frames v
    i = subst (λ (z : ℕ). Inside z v) (sym q.frames_are) (inside_room h.frames room)

    go : (e : Refusal) → OpenRefused v s.frames s.devices s.group s.driver who d e → Keeps room Quiet h (Told who (Open d) (No (number_of e)) ∷ es)
    go OutOfRange x = keeps_reason OutOfRange b (rw (le-leb s.devices d x))
    go NoPage x = absurd x
    go Occupied x = absurd x
    go WrongLoan x = absurd x
    go NotYours x = keeps_reason NotYours b (rw (lt-leb s.devices d x.0, ne_eqb (s.driver d) who x.1))
    go Held x =
        keeps_reason Held b
        (rw (lt-leb s.devices d x.0, eq-eqb (s.driver d) who x.1, is_true (not (is_shut (s.dev d)) || foreign s who d) (held_by_some s b.holds.kept who d x.2)))
    go NoFrame x =
        keeps_reason NoFrame b
        (rw (
          lt-leb s.devices d x.0,
          eq-eqb (s.driver d) who x.1,
          is_false (not (is_shut (s.dev d)) || foreign s who d) (free_to_open s b.holds.kept who d x.2 x.3),
          is_true (full s) (no_idle s b.tidy.coherent b.holds.kept i x.4),
        ))
    go NotPermitted x = absurd x
    go NotBuilt x = absurd x

-- groups and drivers stay while a frame is made noughts
clears_alike : {f : ℕ} {h : Hw} {es : List Event} {m : ℕ} {j : Hw} {gs : List Event} → Clears f h es m j gs → (j.group ≡ h.group) × (j.driver ≡ h.driver)
clears_alike Clears.none = (refl, refl)
clears_alike (Clears.more c t) =
    let o = clears_alike c in
    let q = steps_same t in
    (q.group ∙ o.0, q.driver ∙ o.1)

pub open_told : {room room2 : List ℕ} {who d n f r : ℕ} {h i j : Hw} {es fs gs : List Event} → n ≡ h.frames → Begins room who (Open d) h es → d < h.devices → h.driver d ≡ who → device_of room d ≡ device.Shut →
    GroupFree (device_of room) h.devices h.group who d → f < h.frames → use_of room f ≡ used.Idle → Cleared f h es 512 i fs → Consistent n room2 → ledger.view_of n room2 ≡ opened_by who d f (ledger.view_of n room) → r ≡ f →
    Steps (counted (with_mem (put 0 d (r + 1) i.mem) i)) fs j gs → Keeps room2 Quiet j (Told who (Open d) Done ∷ gs)
open_told {room} {room2} {who} {d} {n} {f} {r} {h} {i} {j} {es} {fs} {gs} q b lt e x g l y c t w k m2 =
    let m = subst (λ (z : ℕ). Steps (counted (with_mem (put 0 d z i.mem) i)) fs j gs) (add-one r ∙ ap suc k) m2 in
    let v = ledger.view_of n room in
    let a : Holds v (nothing_cut [] []) (Under who (Open d)) h es = subst (λ (z : ℕ). Holds (ledger.view_of z room) (nothing_cut [] []) (Under who (Open d)) h es) (sym q) b.holds in
    let co : Coherent v = subst (λ (z : ℕ). Coherent (ledger.view_of z room)) (sym q) b.tidy.coherent in
    let u = idle_seen room n f (subst (λ (z : ℕ). f < z) (sym q) l) y in
    let o = clears_idle a u c.words in
    let z = c.frames ∙ sym q in
    let s = clears_alike c.words in
    let f2 = subst (λ (p : ℕ). f < p) (sym c.frames) l in
    let g2 = subst (λ (p : ℕ). GroupFree (device_of room) p i.group who d) (sym c.devices) (subst (λ (p : ℕ → ℕ). GroupFree (device_of room) h.devices p who d) (sym s.0) g) in
    let e2 : i.driver d ≡ who = ap (λ (p : ℕ → ℕ). p d) s.1 ∙ e in
    let done = open_done co (subst (λ (p : ℕ). Inside p v) (sym z) (inside_room n room)) (subst (λ (p : ℕ). d < p) (sym c.devices) lt) e2 x g2 f2 u o.zeros o.holds in
    keeps_done ((steps_same m).frames ∙ z) t w (holds_steps done m)
