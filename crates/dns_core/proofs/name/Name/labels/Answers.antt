use Rattle.std.proofs.Common.{ap, sym, subst, ◌∙◌}
use Rattle.dns_core.specs.Labels.{AreLabels}
use Rattle.dns_core.specs.SharedLabels.{labels_in}
use Rattle.dns_core.proofs.LabelsFit.{left_fit, fit_few}
use Rattle.dns_core.proofs.name.Name.labels.Goals as goal

pub returns-in-Some-clause-fit : goal.returns-in-Some-clause-fit
returns-in-Some-clause-fit c = left_fit c.self.inside.skipped c.deref-in-Some.result.now (subst AreLabels (ap labels_in c.in-Some.is ∙ ap (λ v. v.items) (sym c.deref.ensures) ∙ sym c.deref-in-Some.ensures.value) c.self.invariant.1)

pub returns-in-Some-clause-few : goal.returns-in-Some-clause-few
returns-in-Some-clause-few c = fit_few _ (returns-in-Some-clause-fit c)
