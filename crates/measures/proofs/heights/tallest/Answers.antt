use Rattle.std.proofs.Common.{◌≡◌, ℕ, ◌<◌, ◌≤◌, length, get_or, MatchOption, ◌∙◌, rules}
use Rattle.std.proofs.iter.runs.Made.{chains}
use Rattle.measures.proofs.HeightPass.{greatest_is}
use Rattle.measures.proofs.heights.tallest.Goals as goal

pub returns : goal.returns
returns c =
    let hs = c.args.heights.now in
    let top : MatchOption c.max.result (length hs ≡ 0) (λ m. ((k : ℕ) × (k < length hs) × (get_or hs k 0 ≡ m)) × ((k : ℕ) → k < length hs → get_or hs k 0 ≤ m)) = search (rules, chains) in
    c.unwrap_or.ensures ∙ greatest_is hs c.max.result top
