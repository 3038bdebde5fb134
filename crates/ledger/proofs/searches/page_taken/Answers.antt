use Rattle.std.proofs.Common.{sym, refl, ap, ◌∙◌, subst, ⊎_elim}
use Rattle.std.proofs.lemmas.Bool.{eq-eqb}
use Rattle.ledger.specs.Words.{DeviceFits}
use Rattle.ledger.specs.Uses.{owner_is}
use Rattle.ledger.proofs.Laws.{device_fits}
use Rattle.ledger.proofs.Searched.{taken_decides}
use Rattle.ledger.proofs.searches.page_taken.Goals as goal

pub lent_by-requires : goal.lent_by-requires
lent_by-requires c =
    record { consistent = c.requires.consistent; program = ⊎_elim (λ e. subst DeviceFits (sym c.device_at.ensures ∙ e) (device_fits c.args.words.now c.args.d)) (λ e. subst DeviceFits (sym c.device_at.ensures ∙ e) (device_fits c.args.words.now c.args.d)) c.in-Opened.is }

pub returns-in-Opened : goal.returns-in-Opened
returns-in-Opened c =
    taken_decides c.args.frames c.args.words.now c.requires.consistent c.in-Opened.who c.args.d c.args.p
    (⊎_elim (λ e. ap (owner_is c.in-Opened.who) (sym c.device_at.ensures ∙ e) ∙ eq-eqb c.in-Opened.who c.in-Opened.who refl) (λ e. ap (owner_is c.in-Opened.who) (sym c.device_at.ensures ∙ e) ∙ eq-eqb c.in-Opened.who c.in-Opened.who refl) c.in-Opened.is)
    c.lent_by.result c.lent_by.ensures
