-- Certificates: a tree with its temperatures written at the nodes. A short computation, without the search, shows that they are right;
-- means, walls and corners then follow from them.
use Rattle.std.specs.Prelude.{◌≡◌, ℕ, zero, suc, ◌-◌, ◌%◌, min, Bool, true, cond, not, ◌&&◌, T, List, [], ◌∷◌, length, ℤ, pos, ◌+ℤ◌, ◌-ℤ◌, ◌*ℤ◌, neg_ℤ, ◌==◌, int_le, int_lt, nat_le, nat_lt}
use Rattle.std.specs.Int.{int_max}
use Rattle.terms.specs.declared.side.Side.{Side}
use Rattle.terms.specs.declared.side.Side.TheVariants.{Left, Right}
use Rattle.terms.specs.Sides.{other, own, pick}
use Rattle.theory.specs.Limits.{unit, greatest_height, score_limit}
use Rattle.theory.specs.Trees.{Tree, Forest, ended, branch, one, more, height}
use Rattle.theory.specs.Stops.{cold}
use Rattle.theory.specs.Fair.{Fair}
use Rattle.theory.specs.Walls.{wall, temperature, mean}
use Rattle.theory.specs.Corners.{corners_of}

mutual
  pub data Note : Type 0 where
    leaf : ℤ → Note
    node : ℕ → Notes → Notes → Note

  pub data Notes : Type 0 where
    last : Note → Notes
    also : Note → Notes → Notes

-- the tree alone
abbrev mutual
  pub bare : Note → Tree
  bare (leaf v) = ended v
  bare (node m L R) = branch (bare_f L) (bare_f R)

  pub bare_f : Notes → Forest
  bare_f (last x) = one (bare x)
  bare_f (also x F) = more (bare x) (bare_f F)

-- its walls and scaffolds, by the temperatures written there
abbrev mutual
  pub noted : Note → Side → ℕ → ℤ
  noted (leaf v) s t = pos unit *ℤ own s v
  noted (node m L R) s t = pick s (noted_f L Left) (noted_f R Right) (min t m)

  pub noted_f : Notes → Side → ℕ → ℤ
  noted_f (last x) s t = neg_ℤ (noted x (other s) t) -ℤ pos t
  noted_f (also x F) s t = int_max (neg_ℤ (noted x (other s) t) -ℤ pos t) (noted_f F s t)

abbrev pub noted_temperature : Note → ℕ
noted_temperature (leaf v) = 0
noted_temperature (node m L R) = m

abbrev pub noted_mean : Note → ℤ
noted_mean (leaf v) = pos unit *ℤ v
noted_mean (node m L R) = noted_f L Left m

-- the scaffolds have met at m, and one unit before they had not
abbrev pub meets_at : (ℕ → ℤ) → (ℕ → ℤ) → ℕ → Bool
meets_at f g zero = int_le (f 0 +ℤ g 0) (pos 0)
meets_at f g (suc u) = int_le (f (suc u) +ℤ g (suc u)) (pos 0) && int_lt (pos 0) (f u +ℤ g u)

-- at every node
abbrev mutual
  pub meets_throughout : Note → Bool
  meets_throughout (leaf v) = true
  meets_throughout (node m L R) = meets_at (noted_f L Left) (noted_f R Right) m && (meets_throughout_f L && meets_throughout_f R)

  pub meets_throughout_f : Notes → Bool
  meets_throughout_f (last x) = meets_throughout x
  meets_throughout_f (also x F) = meets_throughout x && meets_throughout_f F

-- every score is within its limit
abbrev mutual
  pub limited : Tree → Bool
  limited (ended v) = int_le (neg_ℤ (pos score_limit)) v && int_le v (pos score_limit)
  limited (branch L R) = limited_f L && limited_f R

  pub limited_f : Forest → Bool
  limited_f (one x) = limited x
  limited_f (more x F) = limited x && limited_f F

-- the tree is fair, and the temperatures are right
abbrev pub certified : Note → Bool
certified n = nat_le (height (bare n)) greatest_height && (not (cold (bare n)) && (limited (bare n) && meets_throughout n))

-- how far a wall with this many corners left goes to the next, d units on: all the way where it is sloped
abbrev pub run : ℕ → ℕ → ℤ
run n d = pos (cond (n % 2 == 1) d 0)

-- from p on f turns at the listed places, and then stands still to m, by its values there
abbrev pub turns_at : (ℕ → ℤ) → ℕ → List ℕ → ℕ → Bool
turns_at f p [] m = int_le (f p) (f m)
turns_at f p (c ∷ cs) m = nat_lt p c && ((int_le (f p) (f c +ℤ run (suc (length cs)) (c - p)) && int_le (f c +ℤ run (suc (length cs)) (c - p)) (f p)) && turns_at f c cs m)

-- what a certificate gives
pub record Certified (n : Note) : Type 0 where
  pub fair : Fair (bare n)
  pub heat : temperature (bare n) ≡ noted_temperature n
  pub middle : mean (bare n) ≡ noted_mean n
  pub walls : (s : Side) (t : ℕ) → wall (bare n) s t ≡ noted n s t
  pub corners : (s : Side) (cs : List ℕ) → T (turns_at (noted n s) 0 cs (noted_temperature n)) → corners_of (bare n) s ≡ cs

abbrev pub Certificates : Type 0
Certificates = (n : Note) → T (certified n) → Certified n
