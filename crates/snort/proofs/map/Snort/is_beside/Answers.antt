use Rattle.snort.proofs.Edges.{beside_meets}
use Rattle.snort.proofs.map.Snort.is_beside.Goals as goal

pub returns : goal.returns
returns c = beside_meets c.args.self.now.points c.args.self.now.near c.args.mask c.args.k (c.args.self.now.within c.args.k)
