-- A row's options among the figures of all rows.
use Rattle.std.proofs.Common.{◌≡◌, ℕ, ◌+◌, ◌-◌, ◌<◌, ◌≤◌, List, length, get_or, take, drop, ℤ, pos, sym, refl, ap, ◌∙◌, subst, arith}
use Rattle.std.proofs.lemmas.List.{get_or-take, get_or-drop, length-take-le, length-drop}
use Rattle.terms.specs.declared.side.Side.TheVariants.{Left, Right}
use Rattle.theory.specs.Trees.{Tree, Forest, ended, branch, trees, Score}
use Rattle.spreading.specs.Order.{none}
use Rattle.spreading.specs.Shapes.{start_of, count_of, end_of}
use Rattle.spreading.specs.declared.shape.Fork.{Fork}
use Rattle.spreading.specs.declared.shape.Shape.{Shape}
use Rattle.spreading.specs.declared.shape.Shape.TheVariants.{Ended, Open}
use Rattle.thermographs.specs.declared.figures.Figures.{Figures}
use Rattle.thermographs.specs.Figures.{blank, Tells}
use Rattle.thermographs.specs.Rows.{Tell, OpenReady, Ready}

part_tell : (corners : List ℕ) (figures : List Figures) (from to : ℕ) (xs : List Tree) → from + length xs ≡ to → to ≤ length figures
    → ((k : ℕ) → k < length xs → Tells corners (get_or figures (from + k) blank) (get_or xs k none)) → Tell corners (take (to - from) (drop from figures)) xs
part_tell corners figures from to xs ends room h =
    let rest : length (drop from figures) ≡ length figures - from = length-drop from figures in
    let many : length (take (to - from) (drop from figures)) ≡ to - from = length-take-le (to - from) (drop from figures) (omega arith) in
    record {
      many = omega arith;
      each = λ k l.
          let e : get_or (take (to - from) (drop from figures)) k blank ≡ get_or figures (from + k) blank = get_or-take (to - from) (drop from figures) k blank (omega arith) ∙ get_or-drop from figures k blank in
          subst (λ (f : Figures). Tells corners f (get_or xs k none)) (sym e) (h k l);
    }

-- an open row
pub ready_open : (corners : List ℕ) (figures : List Figures) (fork : Fork) (f : ℕ) (x : Tree) → Ready corners figures (Open fork) f x
    → (from mid to : ℕ) → from ≡ start_of (Open fork) Left → mid ≡ start_of (Open fork) Right → to ≡ end_of (Open fork) → to ≤ length figures
    → (L : Forest) × (R : Forest) × (x ≡ branch L R) × OpenReady corners (take (mid - from) (drop from figures)) (take (to - mid) (drop mid figures)) L R
ready_open corners figures fork f (ended v) h from mid to a b c room =
    let shaped = h.shaped in
    let z : ◌≡◌ {A = ℕ} 0 1 = cc in
    absurd (omega arith)
ready_open corners figures fork f (branch L R) h from mid to a b c room =
    let l : fork.lefts ≡ length (trees L) = ap (λ (z : Shape). count_of z Left) h.shaped in
    let r : fork.rights ≡ length (trees R) = ap (λ (z : Shape). count_of z Right) h.shaped in (
      L,
      R,
      refl,
      record {
        fair = h.fair;
        left = part_tell corners figures from mid (trees L) (omega arith) (omega arith)
            (λ k few. subst (λ (n : ℕ). Tells corners (get_or figures (n + k) blank) (get_or (trees L) k none)) (sym a) (h.told Left k few));
        right = part_tell corners figures mid to (trees R) (omega arith) room
            (λ k few. subst (λ (n : ℕ). Tells corners (get_or figures (n + k) blank) (get_or (trees R) k none)) (sym b) (h.told Right k few));
      },
    )

-- an ended one
abbrev score_of : Shape → ℤ
score_of (Ended v) = v
score_of _ = pos 0

pub ready_ended : (corners : List ℕ) (figures : List Figures) (v : ℤ) (f : ℕ) (x : Tree) → Ready corners figures (Ended v) f x → (x ≡ ended v) × Score v
ready_ended corners figures v f (ended w) h =
    let e : v ≡ w = ap score_of h.shaped in
    (ap ended (sym e), subst Score (sym e) h.fair.scores)
ready_ended corners figures v f (branch L R) h =
    let shaped = h.shaped in
    let z : ◌≡◌ {A = ℕ} 0 1 = cc in
    absurd (omega arith)
