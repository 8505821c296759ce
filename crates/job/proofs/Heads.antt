-- The head and the moves of a job are read as they are written.
use Rattle.std.proofs.Common.{◌≡◌, ℕ, ◌≤◌, List, [], ◌∷◌, ◌++◌, Some, None, Option, refl, ap, ◌∙◌, arith}
use Rattle.std.proofs.ByRecursion.{All-append}
use Rattle.terms.specs.declared.side.Side.{Side}
use Rattle.terms.specs.declared.side.Side.TheVariants.{Left, Right}
use Rattle.terms.specs.declared.side.Mover.{Mover}
use Rattle.terms.specs.declared.side.Mover.TheVariants.{Ours, Theirs}
use Rattle.numbers.specs.Numbers.{written, upto}
use Rattle.numbers.proofs.Written.{none_some}
use Rattle.lines.specs.declared.key.Key.TheVariants as key
use Rattle.lines.specs.Reading.{cut}
use Rattle.lines.specs.Lines.{line, entry, form}
use Rattle.lines.proofs.Splits.{Clear, some_same, cut_sound, cut_complete}
use Rattle.lines.proofs.Laws.{Reads, entry_reads, form_whole, word_whole, counted}
use Rattle.lines.proofs.Counts.{upto_sound, upto_complete, written_clear, count_reads}
use Rattle.job.specs.declared.kind.Kind.{Kind}
use Rattle.job.specs.declared.kind.Kind.TheVariants as kinds
use Rattle.job.specs.declared.moves.Move.{Move}
use Rattle.job.specs.Grammar.{side_text, first_text, kind_text, move_text, moves_text, GoodMove, GoodMoves, last_part, last_option, move_limit}
use Rattle.job.specs.Values.{side_of, first_of, kind_of, both_of, move_parts, move_of}
use Rattle.job.specs.Reads.{side_line, first_line, move_line, moves_lines}

abbrev pub Any : {A : Type 0} → A → Type 0
Any a = Unit {0}

-- words
side_named : (s : Side) → side_of (side_text s) ≡ Some s
side_named Left = refl
side_named Right = refl

side_clear : (s : Side) → Clear 10 (side_text s)
side_clear Left = search arith
side_clear Right = search arith

pub side_reads : Reads side_line (λ s. line key.Side (side_text s)) Any
side_reads = entry_reads key.Side (form side_of) side_text Any (word_whole side_text (Left ∷ Right ∷ []) side_named side_clear)

first_named : (s : Mover) → first_of (first_text s) ≡ Some s
first_named Ours = refl
first_named Theirs = refl

first_clear : (s : Mover) → Clear 10 (first_text s)
first_clear Ours = search arith
first_clear Theirs = search arith

pub first_reads : Reads first_line (λ s. line key.First (first_text s)) Any
first_reads = entry_reads key.First (form first_of) first_text Any (word_whole first_text (Ours ∷ Theirs ∷ []) first_named first_clear)

kind_named : (k : Kind) → kind_of (kind_text k) ≡ Some k
kind_named kinds.Tree = refl
kind_named kinds.Snort = refl

kind_clear : (k : Kind) → Clear 10 (kind_text k)
kind_clear kinds.Tree = search arith
kind_clear kinds.Snort = search arith

pub kind_reads : Reads (entry key.Rules (form kind_of)) (λ k. line key.Rules (kind_text k)) Any
kind_reads = entry_reads key.Rules (form kind_of) kind_text Any (word_whole kind_text (kinds.Tree ∷ kinds.Snort ∷ []) kind_named kind_clear)

-- a move
both_some : (o q : Option ℕ) (m : Move) → both_of o q ≡ Some m → (o ≡ Some m.part) × (q ≡ Some m.option)
both_some None q m e = none_some e
both_some (Some a) None m e = none_some e
both_some (Some a) (Some b) m e = let s = some_same e in (ap (λ m. Some m.part) s, ap (λ m. Some m.option) s)

move_parts_some : (o : Option (List ℕ × List ℕ)) (m : Move) → move_parts o ≡ Some m → (l r : List ℕ) × (o ≡ Some (l, r)) × (upto last_part l ≡ Some m.part) × (upto last_option r ≡ Some m.option)
move_parts_some None m e = none_some e
move_parts_some (Some (l, r)) m e = let h = both_some (upto last_part l) (upto last_option r) m e in (l, r, refl, h.0, h.1)

move_sound : (v : List ℕ) (m : Move) → move_of v ≡ Some m → GoodMove m × (v ≡ move_text m)
unfolding move_text
move_sound v m e =
    let h = move_parts_some (cut 44 v) m e in
    let c = cut_sound 44 v h.0 h.1 h.2 in
    let p = upto_sound last_part h.0 m.part h.3 in
    let q = upto_sound last_option h.1 m.option h.4 in
    ((p.0, q.0), c.1 ∙ (λ i. p.1 i ++ (44 ∷ q.1 i)))

move_complete : (m : Move) → GoodMove m → move_of (move_text m) ≡ Some m
unfolding move_text
move_complete m g =
    ap move_parts (cut_complete 44 (written m.part) (written m.option) (written_clear 44 m.part (omega arith)))
    ∙ (λ i. both_of (upto_complete last_part m.part g.0 i) (upto_complete last_option m.option g.1 i))

move_clear : (m : Move) → GoodMove m → Clear 10 (move_text m)
unfolding move_text
move_clear m g = All-append (λ x. x ≡ 10 → ⊥) (written m.part) (44 ∷ written m.option) (written_clear 10 m.part (omega arith)) ((λ e. omega arith), written_clear 10 m.option (omega arith))

pub move_reads : Reads move_line (λ m. line key.Move (move_text m)) GoodMove
move_reads = entry_reads key.Move (form move_of) move_text GoodMove (form_whole move_of move_text GoodMove move_sound move_complete move_clear)

-- how many, and then that many
pub moves_reads : Reads moves_lines moves_text GoodMoves
unfolding moves_text moves_lines
moves_reads = counted (entry key.Moves (form (upto move_limit))) (λ n. line key.Moves (written n)) (λ n. n ≤ move_limit) (count_reads key.Moves move_limit) move_line (λ m. line key.Move (move_text m)) GoodMove move_reads
