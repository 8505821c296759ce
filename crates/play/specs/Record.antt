-- What an event does to the record, by the figures that it is handed.
use Rattle.std.specs.Prelude.{◌≡◌, ℕ, ◌<◌, min, Bool, false, cond, List, replicate, Some, None, Ok, Err, Option, Result, nat_lt, slice_set}
use Rattle.terms.specs.declared.fault.Refusal.{Refusal}
use Rattle.terms.specs.declared.fault.Refusal.TheVariants.{GameOver, NotOurTurn, NotTheirTurn}
use Rattle.encoding.specs.Columns.{part_limit}
use Rattle.stories.specs.declared.turn.Turn.{Turn}
use Rattle.stories.specs.declared.turn.Turn.TheVariants.{Ours, Theirs, Over}
use Rattle.play.specs.declared.record.Play.{Play}
use Rattle.play.specs.declared.record.Event.{Event}
use Rattle.play.specs.declared.record.Event.TheVariants.{Move, Reply}
use Rattle.play.specs.declared.record.Landing.{Landing}

abbrev pub turn_by : Turn → Option ℕ → Turn
turn_by t None = Over
turn_by t (Some h) = t

abbrev pub hotter_than : ℕ → Option ℕ → Bool
hotter_than a None = false
hotter_than a (Some t) = nat_lt a t

abbrev pub cooled_by : ℕ → Option ℕ → ℕ
cooled_by a None = a
cooled_by a (Some t) = min a t

abbrev pub at_first : Turn → ℕ → Play
at_first t a = record { rows = replicate part_limit 0; turn = t; ambient = a; pending = None }

abbrev pub by_move : Play → Landing → Play
by_move y l =
    record { rows = slice_set y.rows l.part l.row; turn = turn_by Theirs l.hottest; ambient = y.ambient; pending = None }

abbrev pub by_reply : Play → Landing → Play
by_reply y l =
    cond (hotter_than y.ambient l.heat)
    (record { rows = slice_set y.rows l.part l.row; turn = turn_by Ours l.hottest; ambient = y.ambient; pending = Some l.part })
    (record { rows = slice_set y.rows l.part l.row; turn = turn_by Ours l.hottest; ambient = cooled_by y.ambient l.hottest; pending = None })

abbrev pub unless : Play → (Landing → Play) → Result Landing Refusal → Play
unless y f (Ok l) = f l
unless y f (Err n) = y

abbrev pub after : Play → Event → Result Landing Refusal → Play
after y Move r = elim y.turn [ Ours ↦ unless y (by_move y) r | Theirs ↦ y | Over ↦ y ]
after y Reply r = elim y.turn [ Ours ↦ y | Theirs ↦ unless y (by_reply y) r | Over ↦ y ]

abbrev pub done : {A : Type 0} → Result A Refusal → Result (Unit {0}) Refusal
done (Ok x) = Ok tt
done (Err n) = Err n

abbrev pub answer : Turn → Event → Result Landing Refusal → Result (Unit {0}) Refusal
answer t Move r = elim t [ Ours ↦ done r | Theirs ↦ Err NotOurTurn | Over ↦ Err GameOver ]
answer t Reply r = elim t [ Ours ↦ Err NotTheirTurn | Theirs ↦ done r | Over ↦ Err GameOver ]

-- the present rows after it: the part stands at the row where it landed, unless it was refused
abbrev pub rows_after : List ℕ → Result Landing Refusal → Result (Unit {0}) Refusal → List ℕ
rows_after rows (Ok l) (Ok u) = slice_set rows l.part l.row
rows_after rows (Ok l) (Err n) = rows
rows_after rows (Err n) r = rows

-- what was refused has changed nothing
abbrev pub Kept : Play → Play → Result (Unit {0}) Refusal → Type 0
Kept y z (Ok u) = Unit {0}
Kept y z (Err n) = z ≡ y

-- the part is one that a bank may have
abbrev pub Inside : Result Landing Refusal → Type 0
Inside (Ok l) = l.part < part_limit
Inside (Err n) = Unit {0}
