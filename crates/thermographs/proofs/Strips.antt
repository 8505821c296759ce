-- Strips: the corners of rows one behind another, and a row's figures in them.
use Rattle.std.proofs.Common.{◌≡◌, ℕ, zero, suc, ◌+◌, ◌-◌, ◌<◌, ◌≤◌, List, [], ◌∷◌, ◌++◌, length, get_or, take, drop, sym, refl, ap, ◌∙◌, subst, arith, length-append, drop-cons}
use Rattle.std.proofs.lemmas.List.Edits.{take-paste}
use Rattle.std.proofs.lemmas.List.{append-nil, append_assoc, drop_at, take_at, take_all, take-take, length-take-le, length-take}
use Rattle.std.proofs.lemmas.Slice.{between_is}
use Rattle.std.specs.List.{between}
use lib.Seq.{paste}
use Rattle.terms.specs.declared.side.Side.{Side}
use Rattle.terms.specs.declared.side.Side.TheVariants.{Left, Right}
use Rattle.theory.specs.Trees.{Tree}
use Rattle.spreading.proofs.Rows.{length_positions}
use Rattle.theory.specs.Corners.{corners_of}
use Rattle.spreading.specs.Order.{none, positions, row}
use Rattle.thermographs.specs.declared.figures.Figures.{Figures}
use Rattle.thermographs.specs.Figures.{both_corners, strip, before, figures_of, figures_at, wall_of, run, Tells}
use Rattle.thermographs.specs.Laws.{FiguresTell}

pub corners_are : (x : Tree) → both_corners x ≡ corners_of x Left ++ corners_of x Right
unfolding both_corners
corners_are x = refl

pub corners_many : (x : Tree) → length (both_corners x) ≡ length (corners_of x Left) + length (corners_of x Right)
corners_many x = ap length (corners_are x) ∙ length-append (corners_of x Left) (corners_of x Right)

strip_none : strip [] ≡ []
unfolding strip
strip_none = refl

strip_cons : (x : Tree) (xs : List Tree) → strip (x ∷ xs) ≡ strip xs ++ both_corners x
unfolding strip
strip_cons x xs = refl

-- past the last row there are none
pub strip_past : (xs : List Tree) → length xs ≡ 0 → strip xs ≡ []
strip_past [] h = strip_none
strip_past (x ∷ xs) h = absurd (omega arith)

-- one row more
pub strip_more : (xs : List Tree) (i : ℕ) → i < length xs → strip (drop i xs) ≡ strip (drop (suc i) xs) ++ both_corners (get_or xs i none)
strip_more xs i h = ap strip (drop-cons xs i none h) ∙ strip_cons (get_or xs i none) (drop (suc i) xs)

strip_grows : (x : Tree) (xs : List Tree) → length (strip xs) ≤ length (strip (x ∷ xs))
strip_grows x xs = omega (arith, ap length (strip_cons x xs), length-append (strip xs) (both_corners x))

pub strip_longer : (xs : List Tree) (i : ℕ) → length (strip (drop i xs)) ≤ length (strip xs)
strip_longer xs zero = omega arith
strip_longer [] (suc i) = omega arith
strip_longer (x ∷ xs) (suc i) = omega (arith, strip_longer xs i, strip_grows x xs)

-- ---- parts of a strip
middle : (p q s : List ℕ) (a b : ℕ) → length p ≡ a → b ≡ a + length q → between a b (p ++ (q ++ s)) ≡ q
middle p q s a b e h =
    let n : length q ≡ b - a = omega arith in
    ap (take (b - a)) (drop_at p (q ++ s) a e) ∙ take_at q s (b - a) n

same_part : (b e n : ℕ) (l : List ℕ) → e ≤ n → between b e (take n l) ≡ drop b (take e l)
same_part b e n l h = between_is (take n l) b e ∙ ap (drop b) (take-take e n l h)

-- a strip that has grown tells what it told
pub tells_more : (n m : ℕ) (c d : List ℕ) (f : Figures) (x : Tree) → n ≤ m → m ≤ length d → take n d ≡ take n c → Tells (take n c) f x → Tells (take m d) f x
tells_more n m c d f x l room same h = record { start = h.start; inside = λ s. omega (arith, low s, length-take-le m d room); turns = λ s. turns' s }
  where
    low : (s : Side) → (wall_of f s).begin + (wall_of f s).count ≤ n
    low s = omega (arith, h.inside s, length-take n c)

    turns' : (s : Side) → run (wall_of f s) (take m d) ≡ corners_of x s
    turns' s =
        let b = (wall_of f s).begin in
        let e = b + (wall_of f s).count in
        same_part b e m d (omega (arith, low s)) ∙ sym (same_part b e n d (low s)) ∙ ap (between b e) same ∙ h.turns s

-- a row's own figures, once its corners stand behind the others
pub tells_new : (n : ℕ) (p s : List ℕ) (x : Tree) → length p ≡ n → Tells (p ++ (both_corners x ++ s)) (figures_of n x) x
tells_new n p s x e = record {
  start = elim [ Left ↦ refl | Right ↦ refl ];
  inside = elim [ Left ↦ omega (arith, many) | Right ↦ omega (arith, many) ];
  turns = elim [ Left ↦ left | Right ↦ right ];
}
  where
    many : length (p ++ (both_corners x ++ s)) ≡ n + (length (corners_of x Left) + length (corners_of x Right)) + length s
    many = omega (arith, length-append p (both_corners x ++ s), length-append (both_corners x) s, corners_many x)

    apart : p ++ (both_corners x ++ s) ≡ p ++ (corners_of x Left ++ (corners_of x Right ++ s))
    apart = ap (λ (l : List ℕ). p ++ l) (ap (λ (l : List ℕ). l ++ s) (corners_are x) ∙ append_assoc (corners_of x Left) (corners_of x Right) s)

    left : between n (n + length (corners_of x Left)) (p ++ (both_corners x ++ s)) ≡ corners_of x Left
    left = ap (between n (n + length (corners_of x Left))) apart ∙ middle p (corners_of x Left) (corners_of x Right ++ s) n (n + length (corners_of x Left)) e refl

    right : between (n + length (corners_of x Left)) (n + length (corners_of x Left) + length (corners_of x Right)) (p ++ (both_corners x ++ s)) ≡ corners_of x Right
    right =
        ap (between (n + length (corners_of x Left)) (n + length (corners_of x Left) + length (corners_of x Right))) (apart ∙ sym (append_assoc p (corners_of x Left) (corners_of x Right ++ s)))
        ∙ middle (p ++ corners_of x Left) (corners_of x Right) s (n + length (corners_of x Left)) (n + length (corners_of x Left) + length (corners_of x Right))
        (omega (arith, length-append p (corners_of x Left))) refl

-- the used corners with a row's behind them
pub take_new : (n : ℕ) (strips strips' cs : List ℕ) → n ≤ length strips → strips' ≡ paste strips n cs (length cs) → take (n + length cs) strips' ≡ take n strips ++ (cs ++ [])
take_new n strips strips' cs room e =
    ap (take (n + length cs)) e ∙ take-paste strips n cs (length cs) room (omega arith) ∙ ap (λ (l : List ℕ). take n strips ++ l) (take_all (length cs) cs (omega arith) ∙ sym (append-nil cs))

-- ---- a row's corners among all
strip_split : (xs : List Tree) (i : ℕ) → (rest : List ℕ) × (strip xs ≡ strip (drop i xs) ++ rest)
strip_split xs zero = ([], sym (append-nil (strip xs)))
strip_split [] (suc i) = ([], sym (append-nil (strip [])))
strip_split (x ∷ xs) (suc i) =
    let (rest, e) = strip_split xs i in
    (rest ++ both_corners x, strip_cons x xs ∙ ap (λ (l : List ℕ). l ++ both_corners x) e ∙ append_assoc (strip (drop i xs)) rest (both_corners x))

regroup : (front s c rest back : List ℕ) → front ++ (((s ++ c) ++ rest) ++ back) ≡ (front ++ s) ++ (c ++ (rest ++ back))
regroup front s c rest back = simp append_assoc

pub figures_tell : FiguresTell
figures_tell t i lt front back =
    let xs = positions t in
    let (rest, e) = strip_split xs i in
    let whole : strip xs ≡ (strip (drop (suc i) xs) ++ both_corners (row t i)) ++ rest = e ∙ ap (λ (l : List ℕ). l ++ rest) (strip_more xs i (omega (arith, length_positions t))) in
    let all : front ++ (strip xs ++ back) ≡ (front ++ strip (drop (suc i) xs)) ++ (both_corners (row t i) ++ (rest ++ back)) =
    ap (λ (l : List ℕ). front ++ (l ++ back)) whole ∙ regroup front (strip (drop (suc i) xs)) (both_corners (row t i)) rest back in
    subst (λ (l : List ℕ). Tells l (figures_at t (length front) i) (row t i)) (sym all)
    (tells_new (length front + before t i) (front ++ strip (drop (suc i) xs)) (rest ++ back) (row t i) (length-append front (strip (drop (suc i) xs))))
