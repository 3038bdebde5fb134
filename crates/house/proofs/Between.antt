-- What holds between calls: at the start, while programs run, and after an answer.
use Rattle.std.proofs.Common.{◌≡◌, ℕ, ◌<◌, ◌≤◌, Bool, not, T, List, [], ◌∷◌, Some, sym, refl, ap, ◌∙◌, subst, lit≤, arith}
use Rattle.ledger.specs.View as ledger
use Rattle.ledger.specs.Consistent.{Consistent}
use Rattle.house.specs.declared.Call.{Call}
use Rattle.house.specs.declared.Answer.{Answer}
use Rattle.house.specs.declared.Answer.TheVariants.{Done, No}
use Rattle.house.specs.declared.refusals.Refusal.{Refusal}
use Rattle.house.specs.declared.refusals.Refusal.TheVariants.{OutOfRange, NoPage, Occupied, WrongLoan, NotYours, Held, NoFrame, NotPermitted, NotBuilt}
use Rattle.house.specs.Event.{Event, Asked, Told}
use Rattle.house.specs.Machine.{Hw, Shown, Comes, Runs, Steps, allowed}
use Rattle.house.specs.Meaning
use Rattle.house.specs.Meaning.{State, Use, House, Idle, TableOf, Of, Loan, Lent, is_of, any, has, taken, Now, Quiet, Under, Over, Run, set_drains, set_word}
use Rattle.house.specs.Promise.{can, start_of}
use Rattle.house.specs.Sound.{Shaped, Same, is_page}
use Rattle.house.specs.Serving.{Fits, Progress, nothing_cut, Holds, Keeps, Begins}
use Rattle.house.specs.Refusals.{number_of}
use Rattle.house.proofs.Built.{all_built}
use Rattle.house.proofs.Rooms.{Inside, inside_room, shown_right}
use Rattle.house.proofs.Steps.{steps_keep, house_home, shape_same}
use Rattle.house.proofs.Programs.{comes_some, runs_keep}

pub start_same : (h i : Hw) → Same h i → start_of i ≡ start_of h
start_same h i q = λ x. Meaning.at_start (q.frames x) (q.devices x) (q.group x) (q.driver x) 1

-- two machines of one shape
abbrev pub Alike : Hw → Hw → Type 0
Alike j h = Shaped j.frames j.devices j.group j.driver h.frames h.devices h.group h.driver

pub same_alike : {h j : Hw} → Same h j → Alike j h
same_alike q = record { frames_are = q.frames; devices_are = q.devices; group_is = q.group; driver_is = q.driver }

pub fits_alike : (h j : Hw) → Alike j h → Fits h → Fits j
fits_alike h j q f = record {
  least = rw q.frames_are f.least;
  most = rw q.frames_are f.most;
  few = rw q.devices_are f.few;
  groups = λ d. rw q.group_is (f.groups d);
  drivers = λ d. rw q.driver_is (f.drivers d);
}

-- devices and the unit go on by themselves: all holds with the words that devices have written
pub holds_steps : {v : ledger.View} {p : Progress} {n : Now} {h j : Hw} {es gs : List Event} → Holds v p n h es → Steps h es j gs → Holds v p n j gs
holds_steps {v} {p} {n} {h} {j} {es} {gs} a m =
    let q = steps_keep a.sound a.words a.shape a.run m in
    let root = λ (d : ℕ). (q.quiet 0 d (house_home (a.state.what 0) a.sound.house)).0 in
    record {
      fits = fits_alike h j (same_alike q.same) a.fits;
      state = set_word q.word a.state;
      run = subst (λ (z : State). Run can z gs (set_word q.word a.state) n) (sym (start_same h j q.same)) q.run;
      shape = shape_same a.shape q.same;
      drained_are = a.drained_are;
      undrained_are = a.undrained_are;
      kept = a.kept;
      sound = q.sound;
      words = q.words;
      live = subst (λ (z : Bool). T z) (sym q.same.live) a.live;
      shown = λ c u x y. ap (λ (z : ℕ → ℕ → Shown). z c u) q.same.space ∙ a.shown c u x y;
      roots = λ d c e. root d ∙ a.roots d c e;
      severed = λ d t. root d ∙ a.severed d t;
      forgot = λ d t i. q.forgets d (a.severed d t) (a.forgot d t i);
    }

house_no_page : (u : Use) → u ≡ House → T (not (is_page u))
unfolding is_page
house_no_page u e = subst (λ (x : Use). T (not (is_page x))) (sym e) tt

-- the machine has as many frames as before, so the room serves as before
pub moved : {room : List ℕ} {n : Now} (k : ℕ) {j : Hw} {gs : List Event} → j.frames ≡ k → Consistent k room → (a b : List ℕ) → Holds (ledger.view_of k room) (nothing_cut a b) n j gs → Keeps room n j gs
moved {room} {n} k {j} {gs} q t a b r =
    record { tidy = rw q t; yeses = a; noes = b; holds = subst (λ (z : ℕ). Holds (ledger.view_of z room) (nothing_cut a b) n j gs) (sym q) r }

-- programs run: all holds with the words that they and devices have stored
pub keeps_runs : {room : List ℕ} {h j : Hw} {es gs : List Event} → Keeps room Quiet h es → Runs h es j gs → Keeps room Quiet j gs
keeps_runs {room} {h} {j} {es} {gs} k m =
    let a = k.holds in
    let inside = subst (λ (z : ℕ). Inside z (ledger.view_of h.frames room)) (sym a.shape.frames_are) (inside_room h.frames room) in
    let q = runs_keep a.sound a.words a.shape (shown_right a.state k.tidy.coherent a.kept inside h.space a.shown) a.run m in
    let root = λ (d : ℕ). q.quiet 0 d (house_no_page (a.state.what 0) a.sound.house) in
    moved h.frames q.same.frames k.tidy k.yeses k.noes (record {
      fits = fits_alike h j (same_alike q.same) a.fits;
      state = set_word q.word a.state;
      run = subst (λ (z : State). Run can z gs (set_word q.word a.state) Quiet) (sym (start_same h j q.same)) q.run;
      shape = shape_same a.shape q.same;
      drained_are = a.drained_are;
      undrained_are = a.undrained_are;
      kept = a.kept;
      sound = q.sound;
      words = q.words;
      live = subst (λ (z : Bool). T z) (sym q.same.live) a.live;
      shown = λ c u x y. ap (λ (z : ℕ → ℕ → Shown). z c u) q.same.space ∙ a.shown c u x y;
      roots = λ d c e. root d ∙ a.roots d c e;
      severed = λ d t. absurd t;
      forgot = λ d t i. absurd t;
    })

-- a program makes a call
pub begins_asked : {room : List ℕ} {i : Hw} {fs : List Event} (who : ℕ) (c : Call) → who < 32 → Keeps room Quiet i fs → Begins room who c (allowed 2048 i) (Asked who c ∷ fs)
begins_asked who c lt k =
    let a = k.holds in
    record {
      tidy = k.tidy;
      program = lt;
      holds = record {
        fits = a.fits;
        state = set_drains [] [] a.state;
        run = Meaning.asks who c a.run;
        shape = a.shape;
        drained_are = refl;
        undrained_are = refl;
        kept = a.kept;
        sound = a.sound;
        words = a.words;
        live = a.live;
        shown = a.shown;
        roots = a.roots;
        severed = λ d t. absurd t;
        forgot = λ d t i. absurd t;
      };
    }

pub begins_comes : {room : List ℕ} {who : ℕ} {c : Call} {h j : Hw} {es gs : List Event} → Keeps room Quiet h es → Comes h es (Some (who, c)) j gs → (2048 ≤ j.left) × Begins room who c j gs
begins_comes {room} {who} {c} {h} {j} {es} {gs} k m =
    let q = comes_some m in
    let b = begins_asked who c q.small (keeps_runs k q.runs) in
    subst (λ (z : Hw). (2048 ≤ z.left) × Begins room who c z gs) (sym q.hw_is) (lit≤ tt, subst (λ (z : List Event). Begins room who c (allowed 2048 q.hw) z) (sym q.events_are) b)

-- an answer is told, and the call is over
pub keeps_told : {room : List ℕ} {who : ℕ} {c : Call} {a : Answer} {n : ℕ} {v : ledger.View} {h : Hw} {es : List Event} {yes' noes : List ℕ} → h.frames ≡ n → Consistent n room → ledger.view_of n room ≡ v →
    (b : Holds v (nothing_cut yes' noes) (Over who c a) h es) → T (Meaning.may_tell b.state who c a) → Keeps room Quiet h (Told who c a ∷ es)
keeps_told {room} {who} {c} {a} {n} {v} {h} {es} {yes'} {noes} q t e b m =
    moved n q t yes' noes (subst (λ (z : ledger.View). Holds z (nothing_cut yes' noes) Quiet h (Told who c a ∷ es)) (sym e) (record {
      fits = b.fits;
      state = b.state;
      run = Meaning.tells b.run m;
      shape = b.shape;
      drained_are = b.drained_are;
      undrained_are = b.undrained_are;
      kept = b.kept;
      sound = b.sound;
      words = b.words;
      live = b.live;
      shown = b.shown;
      roots = b.roots;
      severed = b.severed;
      forgot = b.forgot;
    }))

-- done may always be told
pub keeps_done : {room : List ℕ} {who : ℕ} {c : Call} {n : ℕ} {v : ledger.View} {h : Hw} {es : List Event} {yes' noes : List ℕ} → h.frames ≡ n → Consistent n room → ledger.view_of n room ≡ v →
    Holds v (nothing_cut yes' noes) (Over who c Done) h es → Keeps room Quiet h (Told who c Done ∷ es)
unfolding Meaning.is_later
keeps_done q t e b = keeps_told q t e b tt

-- a refused call changes nothing
pub keeps_refused : {room : List ℕ} {who : ℕ} {c : Call} {h : Hw} {es : List Event} (k : ℕ) (b : Begins room who c h es) → Run can (start_of h) es b.holds.state (Over who c (No k)) → Keeps room Quiet h (Told who c (No k) ∷ es)
unfolding Meaning.is_later
keeps_refused k b r =
    let a = b.holds in
    keeps_told refl b.tidy refl (record {
      fits = a.fits;
      state = a.state;
      run = r;
      shape = a.shape;
      drained_are = a.drained_are;
      undrained_are = a.undrained_are;
      kept = a.kept;
      sound = a.sound;
      words = a.words;
      live = a.live;
      shown = a.shown;
      roots = a.roots;
      severed = a.severed;
      forgot = a.forgot;
    }) tt

-- by the number that the meaning has for it
pub keeps_why : {room : List ℕ} {who : ℕ} {c : Call} {h : Hw} {es : List Event} (k : ℕ) → T (can c) → (b : Begins room who c h es) → Meaning.why b.holds.state who c ≡ k → 0 < k → Keeps room Quiet h (Told who c (No k) ∷ es)
keeps_why {room} {who} {c} {h} {es} k t b e lt =
    keeps_refused k b (subst (λ (z : ℕ). Run can (start_of h) es b.holds.state (Over who c (No z))) e (Meaning.refused b.holds.run t (subst (λ (z : ℕ). 0 < z) (sym e) lt)))

-- a reason's number is none that says yes
numbered : (e : Refusal) → 0 < number_of e
numbered OutOfRange = omega arith
numbered NoPage = omega arith
numbered Occupied = omega arith
numbered WrongLoan = omega arith
numbered NotYours = omega arith
numbered Held = omega arith
numbered NoFrame = omega arith
numbered NotPermitted = omega arith
numbered NotBuilt = omega arith

-- by the reason, each call being built
pub keeps_reason : {room : List ℕ} {who : ℕ} {c : Call} {h : Hw} {es : List Event} (e : Refusal) (b : Begins room who c h es) → Meaning.why b.holds.state who c ≡ number_of e → Keeps room Quiet h (Told who c (No (number_of e)) ∷ es)
keeps_reason {c = c} e b q = keeps_why (number_of e) (all_built c) b q (numbered e)
