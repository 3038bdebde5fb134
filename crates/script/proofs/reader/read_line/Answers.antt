use Rattle.std.proofs.Common.{◌≡◌, Some, None, Option, IfSome, refl, ap, ◌∙◌, sym}
use Rattle.script.specs.Language.{Writes}
use Rattle.script.specs.Parser.{sentence_of}
use Rattle.script.specs.Spaces.{words_of}
use Rattle.script.proofs.Complete.{complete}
use Rattle.script.proofs.Sound.{sound}
use Rattle.script.proofs.reader.read_line.Goals as goal

each : {A : Type 0} (o : Option A) (P : A → Type 0) → ((a : A) → o ≡ Some a → P a) → IfSome o P
each None P h = tt
each (Some a) P h = h a refl

pub returns-clause-sound : goal.returns-clause-sound
returns-clause-sound c =
    each c.sentence.result (λ l. Writes l c.args.bytes.now) (λ l e.
    (c.if-bytes-gt-LONGEST.false, sound (words_of c.args.bytes.now) l (sym (c.sentence.ensures ∙ ap sentence_of c.new-words.ensures) ∙ e)))

pub returns-clause-complete : goal.returns-clause-complete
returns-clause-complete c l w = c.sentence.ensures ∙ ap sentence_of c.new-words.ensures ∙ complete l (words_of c.args.bytes.now) w.1
