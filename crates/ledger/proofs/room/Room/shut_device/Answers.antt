use Rattle.ledger.specs.declared.Use.TheVariants.{Idle}
use Rattle.ledger.specs.declared.Device.TheVariants.{Shut}
use Rattle.ledger.specs.Room.{top_of}
use Rattle.ledger.specs.View.{view_of, with_use, with_top, with_device}
use Rattle.ledger.specs.Changes.{without_lowers}
use Rattle.std.proofs.Common.{◌≡◌, ℕ, ◌∙◌, subst}
use Rattle.ledger.proofs.Becoming.{still, seen_from}
use Rattle.ledger.proofs.Closed.{home_free, bare_live, bare_free, bare_lows, bare_hidden, shut_view}
use Rattle.ledger.proofs.room.Room.shut_device.Goals as goal

pub drop_lowers-requires : goal.drop_lowers-requires
drop_lowers-requires c = record { device = c.requires.device; free = rw c.home_all.ensures.0 (home_free c.args.self.now.frames c.args.self.now.words.now c.home_all.new.self.words.now c.args.who c.args.d c.requires.owner c.requires.hidden c.home_all.ensures.2) }

pub drop_upper-requires : goal.drop_upper-requires
drop_upper-requires c =
    record {
      device = c.requires.device;
      live = bare_live c.args.self.now.frames c.args.self.now.words.now c.home_all.new.self.words.now c.args.who c.args.d c.requires.owner c.requires.hidden c.home_all.ensures.2 c.drop_lowers.new.self.words.now (seen_from c.args.self.now c.home_all.new.self c.drop_lowers.new.self _ (without_lowers c.args.d) c.home_all.ensures c.drop_lowers.ensures);
      free = rw (c.drop_lowers.ensures.0 ∙ c.home_all.ensures.0) (bare_free c.args.self.now.frames c.args.self.now.words.now c.home_all.new.self.words.now c.args.who c.args.d c.requires.owner c.requires.hidden c.home_all.ensures.2 c.drop_lowers.new.self.words.now (seen_from c.args.self.now c.home_all.new.self c.drop_lowers.new.self _ (without_lowers c.args.d) c.home_all.ensures c.drop_lowers.ensures));
      lows = bare_lows c.args.self.now.frames c.args.self.now.words.now c.home_all.new.self.words.now c.args.who c.args.d c.requires.owner c.requires.hidden c.home_all.ensures.2 c.drop_lowers.new.self.words.now (seen_from c.args.self.now c.home_all.new.self c.drop_lowers.new.self _ (without_lowers c.args.d) c.home_all.ensures c.drop_lowers.ensures);
      hidden = bare_hidden c.args.self.now.frames c.args.self.now.words.now c.home_all.new.self.words.now c.args.who c.args.d c.requires.owner c.requires.hidden c.home_all.ensures.2 c.drop_lowers.new.self.words.now (seen_from c.args.self.now c.home_all.new.self c.drop_lowers.new.self _ (without_lowers c.args.d) c.home_all.ensures c.drop_lowers.ensures);
    }

pub returns : goal.returns
returns c =
    let e = c.drop_lowers.ensures.0 ∙ c.home_all.ensures.0 in (
      c.drop_upper.ensures.0 ∙ e,
      c.drop_upper.ensures.1 ∙ c.drop_lowers.ensures.1 ∙ c.home_all.ensures.1,
      shut_view c.args.self.now.frames c.args.self.now.words.now c.home_all.new.self.words.now c.args.who c.args.d c.requires.owner c.requires.hidden c.home_all.ensures.2 c.drop_lowers.new.self.words.now (seen_from c.args.self.now c.home_all.new.self c.drop_lowers.new.self _ (without_lowers c.args.d) c.home_all.ensures c.drop_lowers.ensures) (still c.args.self.now c.home_all.new.self _ c.home_all.ensures) c.drop_upper.new.self.words.now
          (subst (λ (m : ℕ). view_of m c.drop_upper.new.self.words.now ≡ with_device c.args.d Shut (with_top c.args.d 0 (with_use (top_of c.drop_lowers.new.self.words.now c.args.d) Idle (view_of m c.drop_lowers.new.self.words.now)))) e c.drop_upper.ensures.2),
      c.drop_upper.ensures.3 ∙ c.drop_lowers.ensures.3 ∙ c.home_all.ensures.3,
    )
