-- The trees of codes: what the rules say of them, that nothing else agrees with the rules, and the answers to the four questions.
use Rattle.std.specs.Prelude.{◌≡◌, ℕ, zero, suc, ◌+◌, ◌-◌, ◌/◌, ◌%◌, ◌^◌, ◌<◌, ◌≤◌, Bool, true, false, cond, not, ◌&&◌, ◌||◌, ◌⊎◌, List, [], ◌∷◌, map, length, pos, ◌-ℤ◌, is_some, Some, None, Option, ◌==◌, ◌≢◌, bit_or, count_ones, refl}
use Rattle.std.proofs.Math.Path.{ap, ap₂}
use Rattle.std.proofs.Common.{sym, ◌∙◌, subst, subst₂, inl, inr, arith, pow_mono}
use Rattle.std.specs.List.{AllByRecursion}
use Rattle.std.proofs.lemmas.Nat.{pow_below, or_lt}
use Rattle.std.proofs.lemmas.List.{length-map}
use Rattle.std.proofs.lemmas.Bool.{cases_Bool, cases_eq, lt-ltb, eq-eqb, ne_eqb, eqb-true, eqb-false, not-true, not-false, or_left, or_right, or_parts, or_cases}
use Rattle.terms.specs.declared.side.Side.{Side}
use Rattle.terms.specs.declared.side.Side.TheVariants.{Left, Right}
use Rattle.terms.specs.Sides.{pick}
use Rattle.theory.specs.Trees.{Tree, ended, options, at}
use Rattle.rules.specs.Meaning.{known_in, score_of, score_in, options_in, Names, LawfulIn}
use Rattle.rules.specs.Positions.{position}
use Rattle.rules.proofs.Options.{at_some, at_none, at_all, map_same, map_map, some_apart, same_tree}
use Rattle.rules.proofs.Positions.{options_open, score_open, ended_left, ended_right}
use Rattle.masks.specs.Masks.{has, members, mask_of}
use Rattle.masks.proofs.Members.{Member, members_same, members_all, members_few, members_none}
use Rattle.masks.proofs.Bits.{has_or, has_zero, has_mask, added_below, mask_below, members_mask, ones_members, zero_mask, some_mask}
use Rattle.snort.specs.declared.colours.Colours.{Colours}
use Rattle.snort.specs.Play as play
use Rattle.snort.specs.Play.{code_base, growth}
use Rattle.snort.specs.PlayLemmas.{legal_parts, uncoloured, uncoloured_same, falls, no_moves, unfold_position, standing, left_stands, right_stands, lawful_within}

module _ (points : ℕ) (joined : ℕ → ℕ → Bool) (few : points ≤ 12) (symmetric : (a b : ℕ) → joined a b ≡ joined b a) where
  abbrev legal : ℕ → ℕ → ℕ → Bool
  legal = play.legal points joined

  abbrev moves : ℕ → ℕ → List ℕ
  moves = play.moves points joined

  abbrev whole : ℕ → ℕ → Tree
  whole = play.tree_within points joined points

  -- the two masks of a code, and the masks of a side and of the other
  abbrev left : ℕ → ℕ
  left code = code % code_base

  abbrev right : ℕ → ℕ
  right code = code / code_base

  abbrev own : Side → ℕ → ℕ
  own s code = pick s (left code) (right code)

  abbrev far : Side → ℕ → ℕ
  far s code = pick s (right code) (left code)

  abbrev choices : Side → ℕ → List ℕ
  choices s code = moves (own s code) (far s code)

  abbrev Stands : ℕ → Type 0
  Stands code = play.stands points joined (left code) (right code) ≡ true

  abbrev Fails : ℕ → Type 0
  Fails code = play.stands points joined (left code) (right code) ≡ false

  abbrev plain : ℕ → Tree
  plain code = whole (left code) (right code)

  abbrev tree : ℕ → Option Tree
  tree = play.snort_tree points joined

  low_codes : 2 ^ points ≤ code_base
  low_codes = pow_mono {j = 12} few

  -- what a move does to the masks of a code
  grown : (code : ℕ) (s : Side) (k : ℕ) → Stands code → k < points → legal (own s code) (far s code) k ≡ true → (own s (code + growth s k) ≡ own s code + 2 ^ k) × (far s (code + growth s k) ≡ far s code)
  grown code Left k st h e =
      let z = standing points joined (left code) (right code) st in
      let b = added_below points (left code) k z.low h (legal_parts points joined (left code) (right code) k e).0 in
      let c = low_codes in
      (omega arith, omega arith)
  grown code Right k st h e = (omega arith, omega arith)

  grown_stands : (code : ℕ) (s : Side) (k : ℕ) → Stands code → k < points → legal (own s code) (far s code) k ≡ true → Stands (code + growth s k)
  grown_stands code Left k st h e =
      let g = grown code Left k st h e in
      ap₂ (play.stands points joined) g.0 g.1 ∙ left_stands points joined (left code) (right code) k st h e
  grown_stands code Right k st h e =
      let g = grown code Right k st h e in
      ap₂ (play.stands points joined) g.1 g.0 ∙ right_stands points joined symmetric (left code) (right code) k st h e

  grown_less : (code : ℕ) (s : Side) (k : ℕ) → Stands code → k < points → legal (own s code) (far s code) k ≡ true → uncoloured points joined (left (code + growth s k)) (right (code + growth s k)) < uncoloured points joined (left code) (right code)
  grown_less code Left k st h e =
      let g = grown code Left k st h e in
      rw (g.0, g.1) (falls points joined (left code) (right code) k h e)
  grown_less code Right k st h e =
      let g = grown code Right k st h e in
      let f = falls points joined (right code) (left code) k h e in
      rw (g.0, g.1) (subst₂ (λ (x y : ℕ). x < y) (uncoloured_same points joined (right code + 2 ^ k) (left code)) (uncoloured_same points joined (right code) (left code)) f)

  -- the trees of the options
  after_left : (code : ℕ) → Stands code → map (λ k. whole (left code + 2 ^ k) (right code)) (choices Left code) ≡ map (λ k. plain (code + growth Left k)) (choices Left code)
  after_left code st =
      map_same (λ k. whole (left code + 2 ^ k) (right code)) (λ k. plain (code + growth Left k)) (Member (legal (left code) (right code)) 0 points)
      (λ k m. let g = grown code Left k st (omega arith) m.2 in sym (ap₂ whole g.0 g.1)) (choices Left code) (members_all (legal (left code) (right code)) 0 points)

  after_right : (code : ℕ) → Stands code → map (λ k. whole (left code) (right code + 2 ^ k)) (choices Right code) ≡ map (λ k. plain (code + growth Right k)) (choices Right code)
  after_right code st =
      map_same (λ k. whole (left code) (right code + 2 ^ k)) (λ k. plain (code + growth Right k)) (Member (legal (right code) (left code)) 0 points)
      (λ k m. let g = grown code Right k st (omega arith) m.2 in sym (ap₂ whole g.1 g.0)) (choices Right code) (members_all (legal (right code) (left code)) 0 points)

  abbrev mapped : Side → ℕ → List Tree
  mapped s code = map (λ k. plain (code + growth s k)) (choices s code)

  unfold_code : (code : ℕ) → Stands code → plain code ≡ position (play.score points joined (left code) (right code)) (mapped Left code) (mapped Right code)
  unfold_code code st =
      unfold_position points joined (left code) (right code) ∙ ap₂ (position (play.score points joined (left code) (right code))) (after_left code st) (after_right code st)

  length_mapped : (s : Side) (code : ℕ) → length (mapped s code) ≡ length (choices s code)
  length_mapped s code = length-map (choices s code) (λ k. plain (code + growth s k))

  pick_mapped : (s : Side) (code : ℕ) → pick s (mapped Left code) (mapped Right code) ≡ mapped s code
  pick_mapped Left code = refl
  pick_mapped Right code = refl

  abbrev Open : ℕ → Type 0
  Open code = (0 < length (choices Left code)) × (0 < length (choices Right code))

  abbrev Over : ℕ → Type 0
  Over code = (length (choices Left code) ≡ 0) ⊎ (length (choices Right code) ≡ 0)

  code_options : (s : Side) (code : ℕ) → Stands code → Open code → options (plain code) s ≡ mapped s code
  code_options s code st o =
      ap (λ t. options t s) (unfold_code code st) ∙ options_open (play.score points joined (left code) (right code)) (mapped Left code) (mapped Right code) s (subst (λ (n : ℕ). 0 < n) (sym (length_mapped Left code)) o.0) (subst (λ (n : ℕ). 0 < n) (sym (length_mapped Right code)) o.1) ∙ pick_mapped s code

  code_no_score : (code : ℕ) → Stands code → Open code → score_of (plain code) ≡ None
  code_no_score code st o =
      ap score_of (unfold_code code st) ∙ score_open (play.score points joined (left code) (right code)) (mapped Left code) (mapped Right code) (subst (λ (n : ℕ). 0 < n) (sym (length_mapped Left code)) o.0) (subst (λ (n : ℕ). 0 < n) (sym (length_mapped Right code)) o.1)

  code_ended : (code : ℕ) → Stands code → Over code → plain code ≡ ended (play.score points joined (left code) (right code))
  code_ended code st (inl z) = unfold_code code st ∙ ended_left (play.score points joined (left code) (right code)) (mapped Left code) (mapped Right code) (length_mapped Left code ∙ z)
  code_ended code st (inr z) = unfold_code code st ∙ ended_right (play.score points joined (left code) (right code)) (mapped Left code) (mapped Right code) (length_mapped Right code ∙ z)

  tree_known : (code : ℕ) → Stands code → tree code ≡ Some (plain code)
  unfolding play.snort_tree
  tree_known code st = ap (λ b. cond b (Some (plain code)) None) st

  tree_unknown : (code : ℕ) → Fails code → tree code ≡ None
  unfolding play.snort_tree
  tree_unknown code st = ap (λ b. cond b (Some (plain code)) None) st

  -- every choice is on the map, and leaves a code that stands
  abbrev Choice : Side → ℕ → ℕ → Type 0
  Choice s code k = (k < points) × (legal (own s code) (far s code) k ≡ true)

  chosen : (s : Side) (code : ℕ) → AllByRecursion (Member (legal (own s code) (far s code)) 0 points) (choices s code)
  chosen s code = members_all (legal (own s code) (far s code)) 0 points

  -- what the rules say
  trees_after : (s : Side) (code : ℕ) → Stands code → map (λ k. Some (plain (code + growth s k))) (choices s code) ≡ map (λ k. tree (code + growth s k)) (choices s code)
  trees_after s code st =
      map_same (λ k. Some (plain (code + growth s k))) (λ k. tree (code + growth s k)) (Member (legal (own s code) (far s code)) 0 points)
      (λ k m. sym (tree_known (code + growth s k) (grown_stands code s k st (omega arith) m.2))) (choices s code) (chosen s code)

  code_says : (s : Side) (code : ℕ) → Stands code → Open code → map (λ y. Some y) (options (plain code) s) ≡ map (λ k. tree (code + growth s k)) (choices s code)
  code_says s code st o =
      ap (map (λ y. Some y)) (code_options s code st o) ∙ map_map (λ y. Some y) (λ k. plain (code + growth s k)) (choices s code) ∙ trees_after s code st

  says : (code : ℕ) → play.Says points joined tree code
  says code = (
    tree_unknown code,
    λ st o. tree_known code st ∙ ap (λ t. Some t) (code_ended code st o),
    λ st l r. (plain code, tree_known code st, λ s. code_says s code st (l, r)),
  )

  -- a side cannot move, or both can
  open_or_over : (m n : ℕ) → (m ≡ 0) ⊎ (m ≢ 0) → (n ≡ 0) ⊎ (n ≢ 0) → ((m ≡ 0) ⊎ (n ≡ 0)) ⊎ ((0 < m) × (0 < n))
  open_or_over m n (inl a) b = inl (inl a)
  open_or_over m n (inr a) (inl b) = inl (inr b)
  open_or_over m n (inr a) (inr b) = inr (omega (arith, a), omega (arith, b))

  moving : (code : ℕ) → Over code ⊎ Open code
  moving code = open_or_over (length (choices Left code)) (length (choices Right code)) (cases_eq (length (choices Left code)) 0) (cases_eq (length (choices Right code)) 0)

  module _ (other : ℕ → Option Tree) (agrees : (code : ℕ) → play.Says points joined other code) where
    abbrev Same : ℕ → Type 0
    Same code = other code ≡ tree code

    same_after : (s : Side) (code : ℕ) → Stands code → ((k : ℕ) → Choice s code k → Same (code + growth s k)) → map (λ k. other (code + growth s k)) (choices s code) ≡ map (λ k. tree (code + growth s k)) (choices s code)
    same_after s code st same =
        map_same (λ k. other (code + growth s k)) (λ k. tree (code + growth s k)) (Member (legal (own s code) (far s code)) 0 points) (λ k m. same k (omega arith, m.2)) (choices s code) (chosen s code)

    open_same : (code : ℕ) → Stands code → Open code → ((s : Side) (k : ℕ) → Choice s code k → Same (code + growth s k)) → Same code
    open_same code st o same =
        let a = (agrees code).2 st o.0 o.1 in
        let by : (s : Side) → options a.0 s ≡ options (plain code) s =
        λ s. some_apart (options a.0 s) (options (plain code) s) (by_side s (a.2 s)) in
        let some : 0 < length (options (plain code) Left) = rw (code_options Left code st o) (rw (length_mapped Left code) o.0) in
        a.1 ∙ ap (λ t. Some t) (same_tree a.0 (plain code) (by Left) (by Right) some) ∙ sym (tree_known code st)
      where
        by_side : (s : Side) {xs : List (Option Tree)} → xs ≡ map (λ k. other (code + growth s k)) (choices s code) → xs ≡ map (λ y. Some y) (options (plain code) s)
        by_side s e = e ∙ same_after s code st (same s) ∙ sym (code_says s code st o)

    same_by : (n code : ℕ) → uncoloured points joined (left code) (right code) ≤ n → Stands code ⊎ Fails code → Over code ⊎ Open code → Same code
    same_by n code h (inr st) o = (agrees code).0 st ∙ sym (tree_unknown code st)
    same_by n code h (inl st) (inl z) = (agrees code).1 st z ∙ sym ((says code).1 st z)
    same_by zero code h (inl st) (inr o) = absurd (nobody_moves o.0)
      where
        nobody_moves : 0 < length (choices Left code) → ⊥
        nobody_moves g = let e = ap length (no_moves points joined (left code) (right code) (omega arith)) in omega arith
    same_by (suc n) code h (inl st) (inr o) =
        open_same code st o (λ s k c. let f = grown_less code s k st c.0 c.1 in same_by n (code + growth s k) (omega arith) (cases_Bool (play.stands points joined (left (code + growth s k)) (right (code + growth s k)))) (moving (code + growth s k)))

    only : (code : ℕ) → Same code
    only code = same_by (uncoloured points joined (left code) (right code)) code (omega arith) (cases_Bool (play.stands points joined (left code) (right code))) (moving code)

  pub by_the_rules : play.ByTheRules points joined
  by_the_rules = (says, only)

  pub lawful : (code : ℕ) → LawfulIn (tree code)
  unfolding play.snort_tree
  lawful code =
      elim (play.stands points joined (left code) (right code)) as (λ b. LawfulIn (cond b (Some (plain code)) None)) [ true ↦ lawful_within points joined few points (left code) (right code) | false ↦ tt ]

  -- the position that the code reads
  seen_by : (b : Bool) (l r : ℕ) (c : Colours) → Some c ≡ cond b (Some (record { left = l; right = r })) None → (b ≡ true) × (c.left ≡ l) × (c.right ≡ r)
  seen_by true l r c e =
      let same : c ≡ record { left = l; right = r } = cc in
      (refl, ap (λ (x : Colours). x.left) same, ap (λ (x : Colours). x.right) same)
  seen_by false l r c e = let z : ◌≡◌ {A = ℕ} 0 1 = cc in absurd (omega arith)

  unseen_by : (b : Bool) (c : Colours) → None ≡ cond b (Some c) None → b ≡ false
  unseen_by true c e = let z : ◌≡◌ {A = ℕ} 0 1 = cc in absurd (omega arith)
  unseen_by false c e = refl

  seen : (code : ℕ) (c : Colours) → Some c ≡ play.colours_of points joined code → Stands code × (c.left ≡ left code) × (c.right ≡ right code)
  seen code c e = seen_by (play.stands points joined (left code) (right code)) (left code) (right code) c e

  unseen : (code : ℕ) → None ≡ play.colours_of points joined code → Fails code
  unseen code e = unseen_by (play.stands points joined (left code) (right code)) (record { left = left code; right = right code }) e

  known_by : (b : Bool) (c : Colours) (x : Tree) → is_some (cond b (Some c) None) ≡ known_in (cond b (Some x) None)
  known_by true c x = refl
  known_by false c x = refl

  pub answer_known : (code : ℕ) (r : Bool) → r ≡ is_some (play.colours_of points joined code) → r ≡ known_in (tree code)
  unfolding play.snort_tree
  answer_known code r e =
      e ∙ known_by (play.stands points joined (left code) (right code)) (record { left = left code; right = right code }) (plain code)

  -- the mask of a side's options
  abbrev legal_mask : Side → ℕ → ℕ
  legal_mask s code = mask_of (legal (own s code) (far s code)) points

  abbrev mask : Side → ℕ → ℕ
  mask s code = play.moves_mask points joined code s

  mask_stands : (s : Side) (code : ℕ) → Stands code → mask s code ≡ cond (legal_mask Left code == 0 || legal_mask Right code == 0) 0 (pick s (legal_mask Left code) (legal_mask Right code))
  mask_stands s code st =
      ap (λ o. play.both_moves points joined o s) (ap (λ b. cond b (Some (record { left = left code; right = right code })) None) st)

  pick_masks : (s : Side) (code : ℕ) → pick s (legal_mask Left code) (legal_mask Right code) ≡ legal_mask s code
  pick_masks Left code = refl
  pick_masks Right code = refl

  not_zero : (s : Side) (code : ℕ) → 0 < length (choices s code) → legal_mask s code ≢ 0
  not_zero s code h e = let z = zero_mask (legal (own s code) (far s code)) points e in omega arith

  is_zero : (s : Side) (code : ℕ) → length (choices s code) ≡ 0 → legal_mask s code ≡ 0
  is_zero s code h = by (cases_eq (legal_mask s code) 0)
    where
      by : (legal_mask s code ≡ 0) ⊎ (legal_mask s code ≢ 0) → legal_mask s code ≡ 0
      by (inl e) = e
      by (inr e) = let z = some_mask (legal (own s code) (far s code)) points e in absurd (omega arith)

  mask_open : (s : Side) (code : ℕ) → Stands code → Open code → mask s code ≡ legal_mask s code
  mask_open s code st o =
      mask_stands s code st ∙ ap₂ (λ p q. cond (p || q) 0 (pick s (legal_mask Left code) (legal_mask Right code))) (ne_eqb (legal_mask Left code) 0 (not_zero Left code o.0)) (ne_eqb (legal_mask Right code) 0 (not_zero Right code o.1)) ∙ pick_masks s code

  some_zero : (code : ℕ) → Over code → (legal_mask Left code == 0 || legal_mask Right code == 0) ≡ true
  some_zero code (inl z) = or_left (legal_mask Left code == 0) (legal_mask Right code == 0) (eq-eqb (legal_mask Left code) 0 (is_zero Left code z))
  some_zero code (inr z) = or_right (legal_mask Left code == 0) (legal_mask Right code == 0) (eq-eqb (legal_mask Right code) 0 (is_zero Right code z))

  mask_over : (s : Side) (code : ℕ) → Stands code → Over code → mask s code ≡ 0
  mask_over s code st z =
      mask_stands s code st ∙ ap (λ b. cond b 0 (pick s (legal_mask Left code) (legal_mask Right code))) (some_zero code z)

  mask_fails : (s : Side) (code : ℕ) → Fails code → mask s code ≡ 0
  mask_fails s code st =
      ap (λ o. play.both_moves points joined o s) (ap (λ b. cond b (Some (record { left = left code; right = right code })) None) st)

  -- its members are the choices
  abbrev listed : Side → ℕ → List ℕ
  listed s code = members (has (mask s code)) 0 16

  listed_open : (s : Side) (code : ℕ) → Stands code → Open code → listed s code ≡ choices s code
  listed_open s code st o =
      let n : 16 ≡ points + (16 - points) = omega arith in
      ap₂ (λ m n. members (has m) 0 n) (mask_open s code st o) n ∙ members_mask (legal (own s code) (far s code)) points (16 - points)

  listed_none : (s : Side) (code : ℕ) → mask s code ≡ 0 → listed s code ≡ []
  listed_none s code z = members_none (has (mask s code)) 0 16 (λ k a b. ap (λ m. has m k) z ∙ has_zero k)

  abbrev After : Side → ℕ → ℕ → Type 0
  After s code k = Stands (code + growth s k) × (k < 12) × (code < 2 ^ 24)

  code_low : (code : ℕ) → Stands code → code < 2 ^ 24
  code_low code st =
      let z = standing points joined (left code) (right code) st in
      let b : right code < code_base = let c = low_codes in let h = z.high in omega arith in
      omega arith

  all_after : (s : Side) (code : ℕ) → Stands code → (ks : List ℕ) → AllByRecursion (Member (legal (own s code) (far s code)) 0 points) ks → AllByRecursion (After s code) ks
  all_after s code st [] h = tt
  all_after s code st (k ∷ ks) h =
      ((grown_stands code s k st (omega arith) h.0.2, omega arith, code_low code st), all_after s code st ks h.1)

  listed_after_by : (s : Side) (code : ℕ) → Stands code ⊎ Fails code → Over code ⊎ Open code → AllByRecursion (After s code) (listed s code)
  listed_after_by s code (inr st) o = rw (listed_none s code (mask_fails s code st)) tt
  listed_after_by s code (inl st) (inl z) = rw (listed_none s code (mask_over s code st z)) tt
  listed_after_by s code (inl st) (inr o) = rw (listed_open s code st o) (all_after s code st (choices s code) (chosen s code))

  answer_options_by : (s : Side) (code : ℕ) → Stands code ⊎ Fails code → Over code ⊎ Open code → options_in (tree code) s ≡ map (λ k. plain (code + growth s k)) (listed s code)
  answer_options_by s code (inr st) o = rw (tree_unknown code st, listed_none s code (mask_fails s code st)) refl
  answer_options_by s code (inl st) (inl z) = rw (tree_known code st, code_ended code st z, listed_none s code (mask_over s code st z)) refl
  answer_options_by s code (inl st) (inr o) = rw (tree_known code st, listed_open s code st o) (code_options s code st o)

  standing_or_not : (code : ℕ) → Stands code ⊎ Fails code
  standing_or_not code = cases_Bool (play.stands points joined (left code) (right code))

  listed_after : (s : Side) (code : ℕ) → AllByRecursion (After s code) (listed s code)
  listed_after s code = listed_after_by s code (standing_or_not code) (moving code)

  answer_options : (s : Side) (code : ℕ) → options_in (tree code) s ≡ map (λ k. plain (code + growth s k)) (listed s code)
  answer_options s code = answer_options_by s code (standing_or_not code) (moving code)

  pub answer_count : (s : Side) (code m : ℕ) → m < 65536 → m ≡ mask s code → count_ones m ≡ length (options_in (tree code) s)
  answer_count s code m h e =
      ones_members 16 m h ∙ ap (λ x. length (members (has x) 0 16)) e ∙ sym (ap length (answer_options s code) ∙ length-map (listed s code) (λ k. plain (code + growth s k)))

  listed_at : (s : Side) (code m k x : ℕ) → m ≡ mask s code → Some x ≡ at (members (has m) 0 16) k → Some x ≡ at (listed s code) k
  listed_at s code m k x e h = h ∙ ap (λ y. at (members (has y) 0 16) k) e

  -- the point of an option, and that the code stays in its range
  pub option_point : (s : Side) (code m k x : ℕ) → m ≡ mask s code → Some x ≡ at (members (has m) 0 16) k → (x < 12) × (code < 2 ^ 24)
  option_point s code m k x e h =
      let a = at_all (After s code) (listed s code) k x (listed_after s code) (listed_at s code m k x e h) in
      (a.1, a.2)

  pub growth_low : (s : Side) (k : ℕ) → k < 12 → growth s k < 2 ^ 24
  growth_low Left k h = let p = pow_below k 12 h in omega arith
  growth_low Right k h = let p = pow_below k 12 h in omega arith

  pub answer_option : (s : Side) (code m k x : ℕ) → m ≡ mask s code → Some x ≡ at (members (has m) 0 16) k → Names tree (at (options_in (tree code) s) k) (Some (code + growth s x))
  answer_option s code m k x e h =
      let l = listed_at s code m k x e h in
      let a = at_all (After s code) (listed s code) k x (listed_after s code) l in
      let p : at (options_in (tree code) s) k ≡ Some (plain (code + growth s x)) =
      ap (λ ts. at ts k) (answer_options s code) ∙ at_some (λ k. plain (code + growth s k)) (listed s code) k x l in
      (tree_known (code + growth s x) a.0 ∙ sym p, ap known_in p)

  pub answer_no_option : (s : Side) (code m k : ℕ) → m ≡ mask s code → None ≡ at (members (has m) 0 16) k → at (options_in (tree code) s) k ≡ None
  answer_no_option s code m k e h =
      ap (λ ts. at ts k) (answer_options s code) ∙ at_none (λ k. plain (code + growth s k)) (listed s code) k (h ∙ ap (λ y. at (members (has y) 0 16) k) e)

  -- the score
  ones_held : (mine theirs : ℕ) → mine < 2 ^ points → count_ones (bit_or mine (mask_of (legal mine theirs) points)) ≡ play.held points joined mine theirs
  ones_held mine theirs h =
      let low : bit_or mine (mask_of (legal mine theirs) points) < 2 ^ points = or_lt points mine (mask_of (legal mine theirs) points) h (mask_below (legal mine theirs) points) in
      ones_members points (bit_or mine (mask_of (legal mine theirs) points)) low ∙ ap length (members_same (has (bit_or mine (mask_of (legal mine theirs) points))) (λ k. has mine k || legal mine theirs k) 0 points same)
    where
      same : (k : ℕ) → 0 ≤ k → k < 0 + points → has (bit_or mine (mask_of (legal mine theirs) points)) k ≡ (has mine k || legal mine theirs k)
      same k a b =
          has_or mine (mask_of (legal mine theirs) points) k ∙ ap (λ x. has mine k || x) (has_mask (legal mine theirs) points k ∙ ap (λ x. x && legal mine theirs k) (lt-ltb k points (omega arith)))

  held_few : (mine theirs : ℕ) → play.held points joined mine theirs ≤ 12
  held_few mine theirs = let a = members_few (λ k. has mine k || legal mine theirs k) 0 points in omega arith

  pub answer_unknown_score : (code : ℕ) → None ≡ play.colours_of points joined code → None ≡ score_in (tree code)
  answer_unknown_score code e = rw (tree_unknown code (unseen code e)) refl

  -- what the code makes of the position that it has read, and of the points that each side may colour there
  module _ (code : ℕ) (c : Colours) (e : Some c ≡ play.colours_of points joined code) (may : Colours) (is : may ≡ play.legal_masks points joined c) where
    here : Stands code × (c.left ≡ left code) × (c.right ≡ right code)
    here = seen code c e

    same_l : may.left ≡ legal_mask Left code
    same_l = ap (λ (x : Colours). x.left) is ∙ ap₂ (λ x y. mask_of (legal x y) points) here.1 here.2

    same_r : may.right ≡ legal_mask Right code
    same_r = ap (λ (x : Colours). x.right) is ∙ ap₂ (λ x y. mask_of (legal x y) points) here.2 here.1

    pub answer_open_score : not (may.left == 0 || may.right == 0) ≡ true → None ≡ score_in (tree code)
    answer_open_score o =
        let z = or_parts (may.left == 0) (may.right == 0) (not-true (may.left == 0 || may.right == 0) o) in
        rw (tree_known code here.0) (sym (code_no_score code here.0 (some_mask (legal (left code) (right code)) points (λ n. eqb-false may.left 0 z.0 (same_l ∙ n)), some_mask (legal (right code) (left code)) points (λ n. eqb-false may.right 0 z.1 (same_r ∙ n)))))

    ours_held : count_ones (bit_or c.left may.left) ≡ play.held points joined (left code) (right code)
    ours_held = ap₂ (λ x y. count_ones (bit_or x y)) here.1 same_l ∙ ones_held (left code) (right code) (standing points joined (left code) (right code) here.0).low

    theirs_held : count_ones (bit_or c.right may.right) ≡ play.held points joined (right code) (left code)
    theirs_held = ap₂ (λ x y. count_ones (bit_or x y)) here.2 same_r ∙ ones_held (right code) (left code) (standing points joined (left code) (right code) here.0).high

    pub both_few : (count_ones (bit_or c.left may.left) ≤ 12) × (count_ones (bit_or c.right may.right) ≤ 12)
    both_few =
        let a = held_few (left code) (right code) in
        let b = held_few (right code) (left code) in
        (omega (arith, ours_held), omega (arith, theirs_held))

    over_by : (may.left == 0 ≡ true) ⊎ (may.right == 0 ≡ true) → Over code
    over_by (inl z) = inl (zero_mask (legal (left code) (right code)) points (sym same_l ∙ eqb-true may.left 0 z))
    over_by (inr z) = inr (zero_mask (legal (right code) (left code)) points (sym same_r ∙ eqb-true may.right 0 z))

    pub answer_score : not (may.left == 0 || may.right == 0) ≡ false → Some (pos (count_ones (bit_or c.left may.left)) -ℤ pos (count_ones (bit_or c.right may.right))) ≡ score_in (tree code)
    answer_score o =
        let z = or_cases (may.left == 0) (may.right == 0) (not-false (may.left == 0 || may.right == 0) o) in
        rw (tree_known code here.0, code_ended code here.0 (over_by z)) (ap₂ (λ x y. Some (pos x -ℤ pos y)) ours_held theirs_held)
