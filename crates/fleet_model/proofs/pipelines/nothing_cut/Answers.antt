use Rattle.fleet_model.proofs.PairLaws.{sent_here, share_most, share_rest}
use Rattle.fleet_model.proofs.pipelines.nothing_cut.Goals as goal

pub returns : goal.returns
returns c = record { sent = sent_here; share = share_most; rest = share_rest }
