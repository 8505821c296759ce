-- The sheet of the game at the end of a story: it fits, it is there, and there is one text.
use Rattle.std.proofs.Common.{◌≡◌, ℕ, zero, suc, ◌<◌, ◌≤◌, List, [], ◌∷◌, map, length, get_or, Some, None, Option, sym, refl, ap, ◌∙◌, subst, arith}
use Rattle.std.proofs.lemmas.List.{get_or-take, take_all, length-map}
use Rattle.terms.specs.declared.side.Side.{Side}
use Rattle.terms.specs.declared.side.Side.TheVariants.{Left, Right}
use Rattle.terms.specs.declared.fault.Refusal.{Refusal}
use Rattle.terms.specs.declared.fault.Refusal.TheVariants.{GameOver, NotOurTurn}
use Rattle.theory.specs.Limits.{option_limit}
use Rattle.theory.specs.Trees.{Tree, ended, branch, options, at, Lawful, Ended}
use Rattle.theory.specs.Fair.{Fair}
use Rattle.theory.specs.Sums.{All}
use Rattle.theory.proofs.Range.{heat_bound, figures_fit_lem}
use Rattle.rules.specs.Meaning.{LawfulIn}
use Rattle.encoding.specs.Columns.{part_limit}
use Rattle.stories.specs.declared.turn.Turn.TheVariants.{Over}
use Rattle.stories.specs.Game.{Game, Advises, not_ours, floor_of, bracket_of}
use Rattle.stories.specs.Stories.{Sum, Story, our_side, sum_after, game_after}
use Rattle.stories.proofs.Fits.{Fit, fit_over, fit_ours, fit_theirs, fit_ends, not_ours_lem}
use Rattle.stories.proofs.Goes.{one_advised, advised_only}
use Rattle.stories.proofs.Places.{none_some}
use Rattle.stories.proofs.Promise.{fits, promise}
use Rattle.play.specs.Standing.{heat_of}
use Rattle.sheet.specs.declared.values.PartLines.{PartLines}
use Rattle.sheet.specs.declared.values.Sheet.{Sheet}
use Rattle.sheet.specs.Fitting.{Within, SmallHeat, SmallPart, SmallAdvice, sum_limit, Fitting}
use Rattle.sheet.specs.Sheet.{head_text, foot_text, sheet_text}
use Rattle.sheet.specs.Sheets.{part_lines, SaysAdvice, Sheets}
use Rattle.sheet.proofs.Bounds.{floor_bound, bracket_bound}
use Rattle.sheet.proofs.Lasting.{at_lawful, parts_few, parts_lawful, parts_fair, ambient_bound}

-- ---- it fits
heat_small : (x : Tree) → SmallHeat (heat_of x)
heat_small (ended v) = tt
heat_small (branch L R) = heat_bound (branch L R)

parts_small : (xs : List Tree) → All Fair xs → (k : ℕ) (d : PartLines) → k < length xs → SmallPart (get_or (map part_lines xs) k d)
parts_small [] f k d h = absurd (omega arith)
parts_small (x ∷ xs) f zero d h = record { mean = (figures_fit_lem x f.0).means; heat = heat_small x }
parts_small (x ∷ xs) f (suc k) d h = parts_small xs f.1 k d (omega arith)

at_below : (xs : List Tree) (k : ℕ) (x : Tree) → at xs k ≡ Some x → k < length xs
at_below [] k x e = none_some x e
at_below (y ∷ xs) zero x e = omega arith
at_below (y ∷ xs) (suc k) x e = omega (arith, at_below xs k x e)

few_options : (x : Tree) (s : Side) → Lawful x → length (options x s) ≤ option_limit
few_options (ended v) s l = omega arith
few_options (branch L R) Left l = l.0
few_options (branch L R) Right l = l.1

advice_small : (g : Game) (a : Option (ℕ × ℕ)) → length g.parts ≤ part_limit → All Lawful g.parts → SaysAdvice g a → SmallAdvice a
advice_small g None h l A = tt
advice_small g (Some (p, k)) h l A =
    let x : Tree = A.tree in
    let lawful : Lawful x = subst LawfulIn A.there (at_lawful g.parts p l) in (
      omega (arith, at_below g.parts p x A.there),
      omega (arith, at_below (options x g.side) k A.option.item A.option.there, few_options x g.side lawful),
    )

over_ended : (t : Story) → (game_after t).turn ≡ Over → All Ended (game_after t).parts
over_ended t e = subst (All Ended) (sym (promise t).parts) ((promise t).over e)

pub sheets_fit_lem : (st : Story) (s : Sheet) → Sheets (game_after st) s → Fitting s
sheets_fit_lem st s h =
    let g : Game = game_after st in
    let b = bracket_bound g.side g.parts g.turn (parts_fair st) (parts_few st) (over_ended st) in
    record {
      count = omega (arith, parts_few st, h.count);
      parts = λ k d l. subst SmallPart
          (ap (λ ps. get_or ps k d) (sym h.parts) ∙ get_or-take s.count s.parts k d l)
          (parts_small g.parts (parts_fair st) k d (omega (arith, h.count)));
      ambient = omega (arith, ambient_bound st, h.ambient);
      floor = subst (Within sum_limit) (sym h.floor)
          (floor_bound g.side g.parts g.turn g.ambient g.pending (parts_fair st) (parts_few st) (ambient_bound st) (over_ended st));
      low = subst (λ c. Within sum_limit c.0) (sym h.bracket) b.0;
      high = subst (λ c. Within sum_limit c.1) (sym h.bracket) b.1;
      advice = advice_small g s.advice (parts_few st) (parts_lawful st) h.advice;
    }

-- ---- it is there
advice_there : (s : Side) (g : Game) (z : Sum) → Fit s g z → (a : Option (ℕ × ℕ)) × SaysAdvice g a
advice_there s g z (fit_over xs w a d f e) = (None, (GameOver, refl))
advice_there s g z (fit_theirs xs a f h) = (None, (NotOurTurn, refl))
advice_there s g z (fit_ours xs a d f h r) =
    let F = fit_ours xs a d f h r in
    let (p, k, A) = one_advised s g z F refl (λ e. not_ours_lem Over (λ i. i) (sym ((fit_ends s g z F).ended e))) in
    (Some (p, k), A)

pub sheet_there : (st : Story) → (s : Sheet) × Sheets (game_after st) s
sheet_there st =
    let g : Game = game_after st in
    let (a, A) = advice_there (our_side st) g (sum_after st) (fits st) in (
      record {
        side = g.side;
        turn = g.turn;
        count = length g.parts;
        parts = map part_lines g.parts;
        ambient = g.ambient;
        floor = floor_of g;
        low = (bracket_of g).0;
        high = (bracket_of g).1;
        advice = a;
      },
      record {
        side = refl;
        turn = refl;
        count = refl;
        parts = take_all (length g.parts) (map part_lines g.parts) (omega (arith, length-map g.parts part_lines));
        ambient = refl;
        floor = refl;
        bracket = refl;
        advice = A;
      },
    )

-- ---- and it has one text
not_both : (g : Game) (n : Refusal) (p k : ℕ) → not_ours g.turn ≡ Some n → Advises g p k → ⊥
not_both g n p k e A = none_some n (ap not_ours (sym A.turn) ∙ e)

advice_one : (g : Game) (a b : Option (ℕ × ℕ)) → SaysAdvice g a → SaysAdvice g b → a ≡ b
advice_one g None None A B = refl
advice_one g None (Some (q, j)) A B = absurd (not_both g A.0 q j A.1 B)
advice_one g (Some (p, k)) None A B = absurd (not_both g B.0 p k B.1 A)
advice_one g (Some (p, k)) (Some (q, j)) A B = let e = advised_only g p k q j A B in cc (e.0, e.1)

pub text_one : (st : Story) (s u : Sheet) → Sheets (game_after st) s → Sheets (game_after st) u → sheet_text s ≡ sheet_text u
unfolding sheet_text head_text foot_text
text_one st s u h k =
    let side : s.side ≡ u.side = h.side ∙ sym k.side in
    let turn : s.turn ≡ u.turn = h.turn ∙ sym k.turn in
    let count : s.count ≡ u.count = h.count ∙ sym k.count in
    let parts = h.parts ∙ sym k.parts in
    let ambient : s.ambient ≡ u.ambient = h.ambient ∙ sym k.ambient in
    let floor : s.floor ≡ u.floor = h.floor ∙ sym k.floor in
    let low : s.low ≡ u.low = ap (λ b. b.0) (h.bracket ∙ sym k.bracket) in
    let high : s.high ≡ u.high = ap (λ b. b.1) (h.bracket ∙ sym k.bracket) in
    let advice = advice_one (game_after st) s.advice u.advice h.advice k.advice in
    cc
