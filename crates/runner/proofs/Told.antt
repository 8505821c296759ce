-- The page of a job that was run: the sheet of the story of the job that the bytes say.
use Rattle.std.proofs.Common.{◌≡◌, ℕ, Bool, true, false, cond, leb, List, ◌++◌, length, take, drop, Ok, Err, Result, sym, refl, ap, ◌∙◌, subst}
use Rattle.std.proofs.lemmas.List.{take_at}
use Rattle.terms.specs.declared.fault.Fault.{Fault}
use Rattle.terms.specs.declared.fault.Refusal.TheVariants.{OutputTooShort}
use Rattle.terms.specs.Refusals.{fault}
use Rattle.stories.specs.Stories.{Story, game_after}
use Rattle.stories.specs.Promise.{SureFloor, SureBracket}
use Rattle.stories.proofs.Promise.{promise, sure_floor, sure_bracket}
use Rattle.sheet.specs.declared.values.Sheet.{Sheet}
use Rattle.sheet.specs.Fitting.{Fitting}
use Rattle.sheet.specs.Sheet.{sheet_text, answer, written_over}
use Rattle.sheet.specs.Sheets.{SaysAdvice, Sheets}
use Rattle.sheet.proofs.Fitted.{sheets_fit_lem}
use Rattle.lines.proofs.Fields.{ok_same, err_ok}
use Rattle.runner.specs.Runs.{Outcome, run_job}
use Rattle.runner.specs.Stories.{story_of}
use Rattle.runner.specs.Pages.{Ran, Promises, Page}
use Rattle.runner.proofs.Exact.{run_exact}

-- the promise, in the figures of the sheet
promises : (st : Story) (s : Sheet) → Sheets (game_after st) s → Promises st s
promises st s h = record {
  shows = h;
  promised = promise st;
  floor = subst (SureFloor st) (sym h.floor) (sure_floor st);
  bracket = subst (SureBracket st) (sym h.bracket) (sure_bracket st);
  advice = λ p k e. subst (SaysAdvice (game_after st)) e h.advice;
}

module _ (lent room : ℕ) (bytes : List ℕ) where
  -- the sheet of a job fits a page
  pub sheet_fits : (x : Outcome) (s : Sheet) → run_job lent room bytes ≡ Ok x → Sheets x.game s → Fitting s
  sheet_fits x s e h =
      let r = (run_exact lent room bytes).sound x e in
      sheets_fit_lem (story_of r.job r.meant) s (subst (λ y. Sheets y.game s) r.leads h)

  written : (text old : List ℕ) (n : ℕ) → answer text old ≡ Ok n → take n (written_over text old) ≡ text
  written text old n e = go (leb (length text) (length old)) e
    where
      go : (b : Bool) → cond b (Ok (length text)) (Err (fault OutputTooShort 0)) ≡ Ok n → take n (cond b (text ++ drop (length text) old) old) ≡ text
      go true e = ap (λ k. take k (text ++ drop (length text) old)) (sym (ok_same e)) ∙ take_at text (drop (length text) old) (length text) refl
      go false e = err_ok e

  pub page_of : (old : List ℕ) (r : Result ℕ Fault) (new : List ℕ) → Ran (run_job lent room bytes) old r new → (n : ℕ) → r ≡ Ok n → Page lent room bytes (take n new)
  page_of old r new h n e = go (run_job lent room bytes) refl h
    where
      go : (q : Result Outcome Fault) → run_job lent room bytes ≡ q → Ran q old r new → Page lent room bytes (take n new)
      go (Err d) p h = err_ok (sym h.answers ∙ e)
      go (Ok x) p h =
          let j = (run_exact lent room bytes).sound x p in
          record {
            job = j.job;
            says = j.says;
            meant = j.meant;
            legal = j.legal;
            sheet = h.sheet;
            text = ap (take n) h.output ∙ written (sheet_text h.sheet) old n (sym h.answers ∙ e);
            promises = promises (story_of j.job j.meant) h.sheet (subst (λ y. Sheets y.game h.sheet) j.leads h.shows);
          }
