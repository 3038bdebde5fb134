use Rattle.std.proofs.Common.{◌∙◌, inl, inr, arith, refl}
use Rattle.ledger.proofs.Cleared.{cleared_view, cleared_coherent, cleared_tags}
use Rattle.ledger.proofs.room.Room.set_up.Goals as goal

pub returns : goal.returns
returns c =
    record {
      frames = refl;
      lender = refl;
      view = cleared_view c.args.frames c.clear_frames.new.words c.requires.some c.clear_frames.ensures.idle (λ i l. c.clear_frames.ensures.others i (inl (omega arith)) ∙ c.clear_tables.ensures.cleared i l);
      length = omega arith;
      beyond = λ i l. c.clear_frames.ensures.others i (inr l) ∙ c.clear_tables.ensures.others i (omega arith);
    }

pub invariant_of-result : goal.invariant_of-result
invariant_of-result c =
    record {
      consistent = record {
        long = omega arith;
        some = c.requires.some;
        few = c.requires.few;
        coherent = cleared_coherent c.args.frames c.clear_frames.new.words c.requires.some c.clear_frames.ensures.idle (λ i l. c.clear_frames.ensures.others i (inl (omega arith)) ∙ c.clear_tables.ensures.cleared i l);
        tags = cleared_tags c.args.frames c.clear_frames.new.words c.requires.some c.clear_frames.ensures.idle (λ i l. c.clear_frames.ensures.others i (inl (omega arith)) ∙ c.clear_tables.ensures.cleared i l);
      };
    }
