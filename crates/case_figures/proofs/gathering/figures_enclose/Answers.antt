use Rattle.case_figures.proofs.Shown.{evaluated_as, figures_shown, figures_fit}
use Rattle.case_figures.proofs.gathering.figures_enclose.Goals as goal

pub returns : goal.returns
returns c = record {
  shows = λ f d s h k. figures_shown f d s h k (evaluated_as f d s k);
  printed = λ f d s h k. figures_fit f d s h k (evaluated_as f d s k);
}
