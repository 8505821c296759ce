-- The texts of parts, one after another.
use Rattle.std.proofs.Common.{◌≡◌, ℕ, suc, ◌+◌, ◌<◌, List, [], ◌∷◌, ◌++◌, length, get_or, take, drop, sym, ap, ◌∙◌, append_assoc, append-nil, arith}
use Rattle.std.proofs.lemmas.List.{take_more, take-append-drop, length-take-le}
use Rattle.sheet.specs.declared.values.PartLines.{PartLines}
use Rattle.sheet.specs.declared.page.Page.{Page}
use Rattle.sheet.specs.Page.{Room, Adds}
use Rattle.sheet.specs.Sheet.{part_text, parts_text}
use Rattle.sheet.proofs.Adding.{room_first, room_then, room_as}

parts_append : (i : ℕ) (ps qs : List PartLines) → parts_text i (ps ++ qs) ≡ parts_text i ps ++ parts_text (i + length ps) qs
unfolding parts_text
parts_append i [] qs = let n : i ≡ i + 0 = omega arith in ap (λ n. parts_text n qs) n
parts_append i (p ∷ ps) qs =
    let n : (i + 1) + length ps ≡ i + suc (length ps) = omega arith in
    ap (λ t. part_text i p ++ t) (parts_append (i + 1) ps qs ∙ ap (λ n. parts_text (i + 1) ps ++ parts_text n qs) n)
    ∙ sym (append_assoc (part_text i p) (parts_text (i + 1) ps) (parts_text (i + suc (length ps)) qs))

pub parts_more : (ps : List PartLines) (i : ℕ) (d : PartLines) → i < length ps
    → parts_text 0 (take (i + 1) ps) ≡ parts_text 0 (take i ps) ++ part_text i (get_or ps i d)
unfolding parts_text
parts_more ps i d h =
    let n : 0 + length (take i ps) ≡ i = omega (arith, length-take-le i ps (omega arith)) in
    ap (parts_text 0) (take_more ps i d h)
    ∙ (parts_append 0 (take i ps) (get_or ps i d ∷ [])
    ∙ ap (λ t. parts_text 0 (take i ps) ++ t) (append-nil (part_text (0 + length (take i ps)) (get_or ps i d)) ∙ ap (λ n. part_text n (get_or ps i d)) n))

pub parts_room : (ps : List PartLines) (i : ℕ) (d : PartLines) {p q : Page} → i < length ps
    → Room (parts_text 0 ps) p → Adds (parts_text 0 (take i ps)) p q → Room (part_text i (get_or ps i d)) q
parts_room ps i d h r a =
    let whole = ap (parts_text 0) (sym (take-append-drop (i + 1) ps)) ∙ parts_append 0 (take (i + 1) ps) (drop (i + 1) ps) in
    room_then _ _ (room_as (parts_more ps i d h) (room_first _ _ (room_as whole r))) a
