-- The game of Snort on a map of points and edges. A position is the mask of the points that Left has coloured, and Right's.
use Rattle.std.specs.Prelude.{◌≡◌, ℕ, zero, suc, ◌+◌, ◌*◌, ◌/◌, ◌%◌, ◌^◌, ◌<◌, Bool, true, false, cond, not, ◌&&◌, ◌||◌, ◌⊎◌, List, map, length, ℤ, pos, ◌-ℤ◌, Some, None, Option, ◌==◌, nat_lt}
use Rattle.terms.specs.declared.side.Side.{Side}
use Rattle.terms.specs.declared.side.Side.TheVariants.{Left, Right}
use Rattle.terms.specs.Sides.{pick}
use Rattle.theory.specs.Trees.{Tree, ended, options}
use Rattle.rules.specs.Positions.{position}
use Rattle.masks.specs.Masks.{has, members, some_below, mask_of}
use Rattle.snort.specs.declared.colours.Colours.{Colours}

-- the code of a position is Left's mask + code_base × Right's mask
abbrev pub code_base : ℕ
code_base = 4096

-- what a code grows by where the side colours the point
abbrev pub growth : Side → ℕ → ℕ
growth Left k = 2 ^ k
growth Right k = code_base * 2 ^ k

module _ (points : ℕ) (joined : ℕ → ℕ → Bool) where
  -- some neighbour of the point is in the mask
  abbrev pub beside : ℕ → ℕ → Bool
  beside mask k = some_below (λ j. joined k j && has mask j) points

  -- a side, with the points of own, may colour a point that is uncoloured and has no neighbour of the other colour
  abbrev pub legal : ℕ → ℕ → ℕ → Bool
  legal own far k = not (has own k) && (not (has far k) && not (beside far k))

  -- whether the side may colour the point, the points of both given
  abbrev pub may_colour : Colours → Side → ℕ → Bool
  may_colour c s = legal (pick s c.left c.right) (pick s c.right c.left)

  -- the points that it may colour, in their order
  abbrev pub moves : ℕ → ℕ → List ℕ
  moves own far = members (legal own far) 0 points

  -- how many points it has coloured or may colour
  abbrev pub held : ℕ → ℕ → ℕ
  held own far = length (members (λ k. has own k || legal own far k) 0 points)

  abbrev pub score : ℕ → ℕ → ℤ
  score left right = pos (held left right) -ℤ pos (held right left)

  -- the tree of a position, looking so many moves deep: each move colours a point, so that the number of points suffices
  unfoldable pub tree_within : ℕ → ℕ → ℕ → Tree
  tree_within zero left right = ended (score left right)
  tree_within (suc n) left right =
      position (score left right) (map (λ k. tree_within n (left + 2 ^ k) right) (moves left right)) (map (λ k. tree_within n left (right + 2 ^ k)) (moves right left))

  -- a point of Left's is Right's too, or beside one of Right's
  abbrev pub clash_at : ℕ → ℕ → ℕ → Bool
  clash_at left right k = has left k && (has right k || beside right k)

  abbrev pub clash : ℕ → ℕ → Bool
  clash left right = some_below (clash_at left right) points

  -- a position that may stand on the map
  abbrev pub stands : ℕ → ℕ → Bool
  stands left right = nat_lt left (2 ^ points) && (nat_lt right (2 ^ points) && not (clash left right))

  -- the position of a code: none where it may not stand
  abbrev pub colours_of : ℕ → Option Colours
  colours_of code =
      cond (stands (code % code_base) (code / code_base)) (Some (record { left = code % code_base; right = code / code_base })) None

  unfoldable pub snort_tree : ℕ → Option Tree
  snort_tree code =
      cond (stands (code % code_base) (code / code_base)) (Some (tree_within points (code % code_base) (code / code_base))) None

  -- the points that each side may colour, as masks
  abbrev pub legal_masks : Colours → Colours
  legal_masks c = record { left = mask_of (may_colour c Left) points; right = mask_of (may_colour c Right) points }

  -- the mask of a side's options
  abbrev pub both_moves : Option Colours → Side → ℕ
  both_moves None s = 0
  both_moves (Some c) s =
      let both = legal_masks c in
      cond (both.left == 0 || both.right == 0) 0 (pick s both.left both.right)

  abbrev pub moves_mask : ℕ → Side → ℕ
  moves_mask code s = both_moves (colours_of code) s

  -- what the rules say of the tree of a code, given the trees of the codes: none where the position may not stand,
  -- ended with its score where a side cannot move, and else a position whose options are the trees after the side's moves
  abbrev pub Says : (ℕ → Option Tree) → ℕ → Type 0
  Says tree code =
      let left = code % code_base in
      let right = code / code_base in
      (stands left right ≡ false → tree code ≡ None) ×
      (stands left right ≡ true → (length (moves left right) ≡ 0) ⊎ (length (moves right left) ≡ 0) → tree code ≡ Some (ended (score left right))) ×
      (stands left right ≡ true → 0 < length (moves left right) → 0 < length (moves right left) →
      (x : Tree) × (tree code ≡ Some x) × ((s : Side) → map (λ y. Some y) (options x s) ≡ map (λ k. tree (code + growth s k)) (moves (pick s left right) (pick s right left))))

  -- the trees are those that the rules say, and no others are
  abbrev pub ByTheRules : Type 0
  ByTheRules =
      ((code : ℕ) → Says snort_tree code) × ((tree : ℕ → Option Tree) → ((code : ℕ) → Says tree code) → (code : ℕ) → tree code ≡ snort_tree code)
