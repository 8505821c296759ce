-- The refusals: the number and the layer of each.
use Rattle.std.specs.Prelude.{ℕ, List, ◌++◌, codes}
use Rattle.std.specs.Fmt.{decimal}
use Rattle.terms.specs.declared.fault.Layer.{Layer}
use Rattle.terms.specs.declared.fault.Layer.TheVariants as layers
use Rattle.terms.specs.declared.fault.Refusal.{Refusal}
use Rattle.terms.specs.declared.fault.Refusal.TheVariants as refusals
use Rattle.terms.specs.declared.fault.Fault.{Fault}

abbrev pub number : Refusal → ℕ
number refusals.JobTooLong = 10
number refusals.WrongLine = 11
number refusals.WrongForm = 12
number refusals.RowNotAbove = 13
number refusals.BytesAfterJob = 14
number refusals.TreeTooLarge = 15
number refusals.PartsFull = 21
number refusals.UnknownCode = 22
number refusals.RowsFull = 23
number refusals.TooHigh = 24
number refusals.ColdPosition = 25
number refusals.CornersFull = 26
number refusals.NotOurTurn = 31
number refusals.GameOver = 32
number refusals.NoSuchPart = 33
number refusals.PartEnded = 34
number refusals.NoSuchOption = 35
number refusals.NotTheirTurn = 36
number refusals.OutputTooShort = 41
number refusals.WrongPoints = 51
number refusals.WrongEdge = 52

abbrev pub layer : Refusal → Layer
layer refusals.JobTooLong = layers.Text
layer refusals.WrongLine = layers.Text
layer refusals.WrongForm = layers.Text
layer refusals.RowNotAbove = layers.Text
layer refusals.BytesAfterJob = layers.Text
layer refusals.TreeTooLarge = layers.Text
layer refusals.PartsFull = layers.Seat
layer refusals.UnknownCode = layers.Seat
layer refusals.RowsFull = layers.Seat
layer refusals.TooHigh = layers.Seat
layer refusals.ColdPosition = layers.Seat
layer refusals.CornersFull = layers.Seat
layer refusals.NotOurTurn = layers.Play
layer refusals.GameOver = layers.Play
layer refusals.NoSuchPart = layers.Play
layer refusals.PartEnded = layers.Play
layer refusals.NoSuchOption = layers.Play
layer refusals.NotTheirTurn = layers.Play
layer refusals.OutputTooShort = layers.Sheet
layer refusals.WrongPoints = layers.Rules
layer refusals.WrongEdge = layers.Rules

abbrev pub fault : Refusal → ℕ → Fault
fault r n = record { refusal = r; line = n }

-- what is printed of a layer, and of a fault
abbrev pub layer_name : Layer → List ℕ
layer_name layers.Text = codes "text"
layer_name layers.Rules = codes "rules"
layer_name layers.Seat = codes "seat"
layer_name layers.Play = codes "play"
layer_name layers.Sheet = codes "sheet"

abbrev pub fault_lines : Fault → List ℕ
fault_lines f = codes "fault=" ++ (decimal (number f.refusal) ++ (codes "\nlayer=" ++ (layer_name (layer f.refusal) ++ (codes "\nline=" ++ decimal f.line))))
