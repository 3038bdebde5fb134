-- All devices of a program closed at once: the room's change is the meaning's.
use Rattle.std.proofs.Common.{◌≡◌, ℕ, zero, suc, ◌<◌, ◌≤◌, Bool, true, false, cond, T, sym, refl, ap, ◌∙◌, subst, arith}
use Rattle.ledger.specs.declared.Device.TheVariants as device
use Rattle.ledger.specs.View as ledger
use Rattle.ledger.specs.Uses as tests
use Rattle.ledger.specs.Changes as changes
use Rattle.house.specs.Machine.{Hw, Forgotten}
use Rattle.house.specs.Meaning.{State, is_in, owner_is, leaving_from, shut, shutting, shut_all}
use Rattle.house.specs.Sound.{view_of, SoundAt, Words}
use Rattle.house.specs.Kept.{Kept, tables_in}
use Rattle.house.specs.Closures.{closed_as, below, closed_all}
use Rattle.house.proofs.Shelf.{choose, is_true, is_false}
use Rattle.house.proofs.Shutting.{shutting_state}
use Rattle.house.proofs.PageWords.{words_shut, words_loans}
use Rattle.house.proofs.Closed.{owner_meant, kept_shut, kept_shutting, kept_unregistered, shut_sound}
use Rattle.house.proofs.ClosedViews.{unshown_all, closed_yes, closed_no, closed_none, closed_skip, unshown_more, unshown_none, unshown_skip, below_none, below_self, below_next, below_other}

-- the room's view and the hardware are as a state says
pub record Settled (v : ledger.View) (x : State) (h : Hw) : Type 0 where
  pub kept : Kept v x
  pub sound : SoundAt (tables_in v) (view_of x) h
  pub words : Words (view_of x) x.word h.mem

settle_shut : (v : ledger.View) (x : State) (h : Hw) (d : ℕ) → Settled v x h → h.mem 0 d ≡ 0 → Forgotten d h → Settled (changes.shut_device d (changes.without_registers d v)) (shut d x) h
settle_shut v x h d a z f = record { kept = kept_shut (changes.without_registers d v) (kept_unregistered v a.kept d) d; sound = shut_sound v x h a.sound d z f; words = words_shut (view_of x) a.words d }

settle_shutting : (v : ledger.View) (x : State) (h : Hw) (c d : ℕ) → Settled v x h → tests.owner_is c (v.device d) ≡ true → Settled (changes.closing_for c d (changes.without_registers d v)) (shutting d x) h
settle_shutting v x h c d a o =
    record { kept = kept_shutting (changes.without_registers d v) (kept_unregistered v a.kept d) c d o; sound = shutting_state x a.sound d; words = words_loans (view_of x) a.words (leaving_from d) }

-- the first n devices, those of w closed
abbrev pub closed_to : (ℕ → Bool) → (ℕ → Bool) → ℕ → ℕ → ledger.View → ledger.View
closed_to owns gone w n v = closed_all (below n owns) gone w (unshown_all (below n owns) v)

module _ (v : ledger.View) (s : State) (h : Hw) (w : ℕ) (owns : ℕ → Bool) (own : (e : ℕ) → owns e ≡ tests.owner_is w (v.device e)) (a : Settled v s h) where
  pub owner_as : (e : ℕ) → owner_is w (s.dev e) ≡ owns e
  owner_as e = ap (owner_is w) (a.kept.devs_are e) ∙ owner_meant w (v.device e) ∙ sym (own e)

  module _ (m : ℕ) (cut : (e : ℕ) → e < m → owns e ≡ true → h.mem 0 e ≡ 0) (gone : (e : ℕ) → e < m → owns e ≡ true → T (is_in e s.drained) → Forgotten e h) where
    settle_next : (n : ℕ) → n < m → Settled (closed_to owns (λ e. is_in e s.drained) w n v) (shut_all n w s) h → Settled (closed_to owns (λ e. is_in e s.drained) w (suc n) v) (shut_all (suc n) w s) h
    unfolding shut_all
    settle_next n l so_far =
        choose (λ (z : State). Settled (closed_to owns said w (suc n) v) z h) (owner_is w (s.dev n)) (cond (said n) (shut n x) (shutting n x)) x
        (λ o.
        let mine : owns n ≡ true = sym (owner_as n) ∙ is_true (owner_is w (s.dev n)) o in
        choose (λ (z : State). Settled (closed_to owns said w (suc n) v) z h) (said n) (shut n x) (shutting n x)
        (λ y. subst (λ (z : ledger.View). Settled z (shut n x) h)
        (ap (λ (u : ledger.View). closed_as true w n (closed_all (below n owns) said w u)) (hidden mine) ∙ closed_yes w n (below n owns) said (below (suc n) owns) said (below_self owns n) (below_next owns n mine) (below_other owns n) (λ e d. refl) (is_true (said n) y) (unshown_all (below (suc n) owns) v))
        (settle_shut (closed_to owns said w n v) x h n so_far (cut n l mine) (gone n l mine y)))
        (λ y. subst (λ (z : ledger.View). Settled z (shutting n x) h)
        (ap (λ (u : ledger.View). closed_as false w n (closed_all (below n owns) said w u)) (hidden mine) ∙ closed_no w n (below n owns) said (below (suc n) owns) said (below_self owns n) (below_next owns n mine) (below_other owns n) (λ e d. refl) (is_false (said n) y) (unshown_all (below (suc n) owns) v))
        (settle_shutting (closed_to owns said w n v) x h w n so_far (still ∙ (sym (own n) ∙ mine)))))
        (λ o.
        let other : owns n ≡ false = sym (owner_as n) ∙ is_false (owner_is w (s.dev n)) o in
        subst (λ (z : ledger.View). Settled z x h) (closed_skip owns n other said w (unshown_all (below n owns) v) ∙ ap (closed_all (below (suc n) owns) said w) (unshown_skip owns n other v)) so_far)
      where
        said : ℕ → Bool
        said e = is_in e s.drained

        x : State
        x = shut_all n w s

        hidden : owns n ≡ true → changes.without_registers n (unshown_all (below n owns) v) ≡ unshown_all (below (suc n) owns) v
        hidden mine = unshown_more w n (below n owns) (λ e. false) (below (suc n) owns) (λ e. false) (below_self owns n) (below_next owns n mine) (below_other owns n) (λ e d. refl) v

        still : tests.owner_is w (cond (below n owns n) (cond (is_in n s.drained) device.Shut (device.Closing w)) (v.device n)) ≡ tests.owner_is w (v.device n)
        still = rw (below_self owns n)

    pub settle_all : (n : ℕ) → n ≤ m → Settled (closed_to owns (λ e. is_in e s.drained) w n v) (shut_all n w s) h
    unfolding shut_all
    settle_all zero l =
        subst (λ (z : ledger.View). Settled z s h) (sym (closed_none (below 0 owns) (λ e. is_in e s.drained) (below_none owns) w (unshown_all (below 0 owns) v) ∙ unshown_none (below 0 owns) (λ e. is_in e s.drained) (below_none owns) v)) a
    settle_all (suc n) l = settle_next n (omega arith) (settle_all n (omega arith))
