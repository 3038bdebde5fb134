-- Setting up: while the unit is off frame 0 is made noughts, and then it is started.
use Rattle.std.proofs.Common.{◌≡◌, ℕ, suc, ◌<◌, Bool, true, false, cond, T, ltb, ◌⊎◌, List, [], sym, refl, ap, ◌∙◌, subst, inl, inr, ⊎_elim, arith}
use mathlib.Core.List.Memᴰ
use mathlib.Core.List.{Memᴰ}
use Rattle.std.proofs.lemmas.Bool.{cases_eq, eq-eqb, ne_eqb, le-ltb}
use Rattle.ledger.specs.View as ledger
use Rattle.ledger.specs.Changes.{empty}
use Rattle.ledger.specs.Consistent.{Consistent}
use Rattle.house.specs.Event.{Event}
use Rattle.house.specs.Machine.{Hw, Shown, AtStart, Steps, Up, Mid, Leaf, counted, put, started}
use Rattle.house.specs.Meaning
use Rattle.house.specs.Meaning.{State, Use, House, Idle, TableOf, Of, Loan, Lent, Quiet, Run, set_word, is_home, loan_of}
use Rattle.house.specs.Promise.{can, start_of}
use Rattle.house.specs.Sound.{Tables, view_of, SoundAt, Sound}
use Rattle.house.specs.Kept.{Kept, tables_in, use_meant, dev_meant, regs_meant, shown_meant}
use Rattle.house.specs.Operations.{Clears, Cleared}
use Rattle.house.specs.Serving.{nothing_cut, Holds, Keeps}
use Rattle.house.proofs.Steps.{steps_keep, house_home, steps_same}
use Rattle.house.proofs.Between.{holds_steps, moved}

-- no table is anywhere
abbrev pub no_tables : Tables
no_tables = tables_in empty

use_start : (f : ℕ) (u : Use) → cond (ltb f 1) House Idle ≡ u → (u ≡ House) ⊎ (u ≡ Idle)
use_start f u e = go (ltb f 1) e
  where
    go : (b : Bool) → cond b House Idle ≡ u → (u ≡ House) ⊎ (u ≡ Idle)
    go true e2 = inl (sym e2)
    go false e2 = inr (sym e2)

never_page : (f c v : ℕ) (l : Loan) → cond (ltb f 1) House Idle ≡ Of c v l → ⊥
never_page f c v l e = go (use_start f (Of c v l) e)
  where
    go : (Of c v l ≡ House) ⊎ (Of c v l ≡ Idle) → ⊥
    go (inl p) = let z : ◌≡◌ {A = ℕ} 0 1 = cc in omega arith
    go (inr p) = let z : ◌≡◌ {A = ℕ} 0 1 = cc in omega arith

not_live : (b : Bool) → b ≡ false → T b → ⊥
not_live b e x = subst (λ (z : Bool). T z) e x

none_known : {A : Type 0} (a : A) (l : List A) → l ≡ [] → Memᴰ a l → ⊥
none_known {A} a l e m = Memᴰ.not-nil (subst (λ (z : List A). Memᴰ a z) e m)

pub sound_start : (h : Hw) → AtStart h → SoundAt no_tables (view_of (start_of h)) h
unfolding Meaning.is_shut
sound_start h a = record {
  house = refl;
  root = λ l d lt. absurd (not_live h.live a.8 l);
  top = λ d held. absurd held.1;
  slot = λ d i held lt. absurd held.1;
  held = λ d i s. absurd s;
  low = λ d i s. absurd s;
  apart = λ d i s e. absurd s;
  distinct = λ d i j s r e. absurd s;
  entries = λ d i j s. absurd s;
  ups_good = λ u m. absurd (none_known u h.ups a.9 m);
  mids_good = λ u m. absurd (none_known u h.mids a.10 m);
  leaves_good = λ u m. absurd (none_known u h.leaves a.11 m);
  flying_good = λ u m. absurd (none_known u h.flying a.12 m);
  lent = λ f c u d p w lt e. absurd (never_page f c u (Lent d p w) e);
}

-- while the unit is off, nothing reads memory
pub sound_off : (h : Hw) (mem mem2 : ℕ → ℕ → ℕ) (live : Bool) (ups : List Up) (mids : List Mid) (leaves flying : List Leaf) → live ≡ false →
    Sound no_tables (view_of (start_of h)) mem live ups mids leaves flying → Sound no_tables (view_of (start_of h)) mem2 live ups mids leaves flying
unfolding Meaning.is_shut
sound_off h mem mem2 live ups mids leaves flying e a = record {
  house = refl;
  root = λ l d lt. absurd (not_live live e l);
  top = λ d held. absurd held.1;
  slot = λ d i held lt. absurd held.1;
  held = λ d i s. absurd s;
  low = λ d i s. absurd s;
  apart = λ d i s q. absurd s;
  distinct = λ d i j s r q. absurd s;
  entries = λ d i j s. absurd s;
  ups_good = a.ups_good;
  mids_good = a.mids_good;
  leaves_good = a.leaves_good;
  flying_good = a.flying_good;
  lent = λ f c u d p w lt q. absurd (never_page f c u (Lent d p w) q);
}

-- the unit is started when frame 0 has nothing
pub sound_live : (h : Hw) (mem : ℕ → ℕ → ℕ) (live : Bool) (ups : List Up) (mids : List Mid) (leaves flying : List Leaf) → ((d : ℕ) → d < h.devices → mem 0 d ≡ 0) →
    Sound no_tables (view_of (start_of h)) mem live ups mids leaves flying → Sound no_tables (view_of (start_of h)) mem true ups mids leaves flying
unfolding Meaning.is_shut
sound_live h mem live ups mids leaves flying z a = record {
  house = refl;
  root = λ l d lt. inl (z d lt);
  top = λ d held. absurd held.1;
  slot = λ d i held lt. absurd held.1;
  held = λ d i s. absurd s;
  low = λ d i s. absurd s;
  apart = λ d i s q. absurd s;
  distinct = λ d i j s r q. absurd s;
  entries = λ d i j s. absurd s;
  ups_good = a.ups_good;
  mids_good = a.mids_good;
  leaves_good = a.leaves_good;
  flying_good = a.flying_good;
  lent = λ f c u d p w lt q. absurd (never_page f c u (Lent d p w) q);
}

-- what holds of the machine with the unit off, when so many words of frame 0 are noughts
record Off (h : Hw) (n : ℕ) (i : Hw) (fs : List Event) : Type 0 where
  pub word : ℕ → ℕ → ℕ
  pub run : Run can (start_of h) fs (set_word word (start_of h)) Quiet
  pub sound : SoundAt no_tables (view_of (start_of h)) i
  pub off : i.live ≡ false
  pub zeros : (k : ℕ) → k < n → i.mem 0 k ≡ 0
  pub frames : i.frames ≡ h.frames
  pub devices : i.devices ≡ h.devices
  pub group : i.group ≡ h.group
  pub driver : i.driver ≡ h.driver
  pub space : i.space ≡ h.space

cleared_word : (n : ℕ) (m : ℕ → ℕ → ℕ) → ((k : ℕ) → k < n → m 0 k ≡ 0) → (k : ℕ) → k < suc n → put 0 n 0 m 0 k ≡ 0
cleared_word n m z k lt = ⊎_elim (λ (e : k ≡ n). rw (eq-eqb k n e)) (λ (d : k ≡ n → ⊥). rw (ne_eqb k n d) (z k (omega arith))) (cases_eq k n)

off_clears : {h i : Hw} {n : ℕ} {fs : List Event} → AtStart h → Clears 0 h [] n i fs → Off h n i fs
off_clears {h} a Clears.none = record {
  word = (start_of h).word;
  run = Meaning.begin;
  sound = sound_start h a;
  off = a.8;
  zeros = λ k lt. omega arith;
  frames = refl;
  devices = refl;
  group = refl;
  driver = refl;
  space = refl;
}
off_clears {h} a (Clears.more {n} {i} {j} {fs} {gs} c m) =
    let o = off_clears a c in
    let q = steps_keep {s = set_word o.word (start_of h)} (sound_off h i.mem (put 0 n 0 i.mem) i.live i.ups i.mids i.leaves i.flying o.off o.sound)
    (λ f c u k l lt w. absurd (never_page f c u l w)) (record { frames_are = sym o.frames; devices_are = sym o.devices; group_is = sym o.group; driver_is = sym o.driver }) o.run m in
    record {
      word = q.word;
      run = q.run;
      sound = q.sound;
      off = q.same.live ∙ o.off;
      zeros = λ k lt. (q.quiet 0 k (house_home ((start_of h).what 0) refl)).0 ∙ cleared_word n i.mem o.zeros k lt;
      frames = q.same.frames ∙ o.frames;
      devices = q.same.devices ∙ o.devices;
      group = q.same.group ∙ o.group;
      driver = q.same.driver ∙ o.driver;
      space = q.same.space ∙ o.space;
    }

kept_empty : (h : Hw) → Kept empty (start_of h)
unfolding use_meant dev_meant regs_meant
kept_empty h = record {
  uses_are = λ f. ⊎_elim (λ (e : f ≡ 0). rw e) (λ (d : f ≡ 0 → ⊥). rw (ne_eqb f 0 d, le-ltb f 1 (omega arith))) (cases_eq f 0);
  devs_are = λ d. refl;
  slots_are = λ d i. refl;
  regs_are = λ c u. refl;
}

pub keeps_started : {room : List ℕ} {h i j : Hw} {es fs gs : List Event} → AtStart h → es ≡ [] → Consistent h.frames room → ledger.view_of h.frames room ≡ empty → Cleared 0 h es 512 i fs →
    Steps (counted (started i)) fs j gs → Keeps room Quiet j gs
unfolding shown_meant
keeps_started {room} {h} {i} {j} {es} {fs} {gs} a e t v c m =
    let o = off_clears a (subst (λ (z : List Event). Clears 0 h z 512 i fs) e c.words) in
    let q = steps_same m in
    let x : Holds empty (nothing_cut [] []) Quiet (counted (started i)) fs = record {
      fits = record { least = rw o.frames a.1; most = rw o.frames a.2; few = rw o.devices a.3; groups = λ d. rw o.group (a.4 d); drivers = λ d. rw o.driver (a.5 d) };
      state = set_word o.word (start_of h);
      run = subst (λ (z : State). Run can z fs (set_word o.word (start_of h)) Quiet) (λ x. Meaning.at_start (sym o.frames x) (sym o.devices x) (sym o.group x) (sym o.driver x) 1) o.run;
      shape = record { frames_are = sym o.frames; devices_are = sym o.devices; group_is = sym o.group; driver_is = sym o.driver };
      drained_are = refl;
      undrained_are = refl;
      kept = kept_empty h;
      sound = sound_live h i.mem i.live i.ups i.mids i.leaves i.flying (λ d lt. o.zeros d (omega (arith, lt, a.3))) o.sound;
      words = λ f c u k l lt w. absurd (never_page f c u l w);
      live = tt;
      shown = λ c u lt lt2. ap (λ (z : ℕ → ℕ → Shown). z c u) o.space ∙ a.7 c u;
      roots = λ d c w. absurd (let z : ◌≡◌ {A = ℕ} 0 1 = cc in omega arith);
      severed = λ d x. absurd x;
      forgot = λ d x w. absurd x;
    } in
    moved h.frames (q.frames ∙ o.frames) t [] [] (subst (λ (z : ledger.View). Holds z (nothing_cut [] []) Quiet j gs) (sym v) (holds_steps x m))

-- the same for a room that was set up for as many frames as the machine has
pub keeps_booted : {room : List ℕ} {n : ℕ} {h i j : Hw} {es fs gs : List Event} → AtStart h → es ≡ [] → n ≡ h.frames → Consistent n room → ledger.view_of n room ≡ empty → Cleared 0 h es 512 i fs →
    Steps (counted (started i)) fs j gs → Keeps room Quiet j gs
keeps_booted {room} a e s t v c m =
    keeps_started a e (subst (λ (z : ℕ). Consistent z room) s t) (subst (λ (z : ℕ). ledger.view_of z room ≡ empty) s v) c m
