-- A line is the case of its key.
use Rattle.std.proofs.Common.{◌≡◌, refl}
use Rattle.numbers.specs.declared.text.Text.{Text}
use Rattle.lines.specs.declared.key.Key.{Key}
use Rattle.lines.specs.declared.key.Key.TheVariants as keyed
use Rattle.lines.specs.declared.key.Line.{Line}
use Rattle.lines.specs.declared.key.Line.TheVariants as lined
use Rattle.lines.specs.Lines.{key_of, value_of}

abbrev pub line_by : Key → Text → Line
line_by keyed.Side v = lined.Side v
line_by keyed.First v = lined.First v
line_by keyed.Parts v = lined.Parts v
line_by keyed.Rules v = lined.Rules v
line_by keyed.Rows v = lined.Rows v
line_by keyed.End v = lined.End v
line_by keyed.Left v = lined.Left v
line_by keyed.Right v = lined.Right v
line_by keyed.Points v = lined.Points v
line_by keyed.Edges v = lined.Edges v
line_by keyed.Moves v = lined.Moves v
line_by keyed.Move v = lined.Move v

pub line_is : (l : Line) → l ≡ line_by (key_of l) (value_of l)
line_is (lined.Side v) = refl
line_is (lined.First v) = refl
line_is (lined.Parts v) = refl
line_is (lined.Rules v) = refl
line_is (lined.Rows v) = refl
line_is (lined.End v) = refl
line_is (lined.Left v) = refl
line_is (lined.Right v) = refl
line_is (lined.Points v) = refl
line_is (lined.Edges v) = refl
line_is (lined.Moves v) = refl
line_is (lined.Move v) = refl
