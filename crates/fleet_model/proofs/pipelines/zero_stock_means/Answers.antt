use Rattle.fleet_model.proofs.MeanLaws.{mean_00, mean_ij, mean_0j}
use Rattle.fleet_model.proofs.PairLaws.{no_stock}
use Rattle.fleet_model.proofs.pipelines.zero_stock_means.Goals as goal

pub returns : goal.returns
returns c = record { depot_line = mean_00; base_shop = mean_ij; base_line = mean_0j; no_stock = no_stock }
