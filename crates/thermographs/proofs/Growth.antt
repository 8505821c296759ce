-- How a strip grows.
use Rattle.std.proofs.Common.{◌≡◌, ℕ, ◌≤◌, List, [], ◌++◌, length, take, sym, refl, ap, ◌∙◌, arith, length-append}
use Rattle.std.proofs.lemmas.List.Edits.{paste_none, paste-paste, paste_all, length-paste}
use Rattle.std.proofs.lemmas.List.{take_at, take-take, length-take-le}
use lib.Seq.{paste}
use Rattle.thermographs.specs.declared.strip.Strip.{Strip}
use Rattle.thermographs.specs.Strips.{told, Grown, Full}

pub grown_none : (s : Strip) → Grown [] s s
grown_none s = record { ends = omega arith; fits = s.room; out = paste_none s.places.now s.used [] }

module _ (ds : List ℕ) (old new : Strip) (G : Grown ds old new) where
  -- what stood there stays
  pub kept_grown : take old.used new.places.now ≡ told old
  kept_grown = ap (take old.used) (G.out ∙ paste_all old.places.now old.used ds (length ds) refl) ∙ take_at (told old) _ old.used (length-take-le old.used old.places.now old.room)

  pub length_grown : length new.places.now ≡ length old.places.now
  length_grown = ap length G.out ∙ length-paste old.places.now old.used ds (length ds) (omega (arith, G.ends, G.fits)) (omega arith)

  -- more behind it
  module _ (es : List ℕ) (end : Strip) where
    pub both_grown : Grown es new end → Grown (ds ++ es) old end
    both_grown H = record {
      ends = omega (arith, G.ends, H.ends, length-append ds es);
      fits = omega (arith, H.fits, length_grown);
      out = H.out ∙ ap (λ (l : List ℕ). paste l new.used es (length es)) G.out ∙ ap (λ (k : ℕ). paste (paste old.places.now old.used ds (length ds)) k es (length es)) G.ends
          ∙ paste-paste old.places.now old.used ds es (length ds) (length es) refl refl old.room ∙ ap (paste old.places.now old.used (ds ++ es)) (sym (length-append ds es));
    }

    pub full_behind : Full es new end → Full (ds ++ es) old end
    full_behind F =
        let low : old.used ≤ new.used = omega (arith, G.ends) in
        record {
          many = omega (arith, F.many, G.ends, length_grown, length-append ds es);
          kept = sym (take-take old.used new.used end.places.now low) ∙ ap (take old.used) F.kept ∙ take-take old.used new.used new.places.now low ∙ kept_grown;
        }
