use Rattle.exact_model.proofs.Same.{ebo_same, tail_same, vbo_same}
use Rattle.exact_model.proofs.backorders.values_alone.Goals as goal

pub returns : goal.returns
returns c = record {
  backorders = λ n u v u' v' s. ebo_same n s;
  tail = λ n u v u' v' s. tail_same n s;
  variance = λ n u v u' v' s. vbo_same n s;
}
