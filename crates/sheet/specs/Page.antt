-- A page that a text is written on, from its start.
use Rattle.std.specs.Prelude.{◌≡◌, ℕ, ◌+◌, ◌≤◌, List, [], ◌∷◌, ◌++◌, length}
use Rattle.sheet.specs.declared.page.Page.{Page}

-- the most bytes of a sheet
abbrev pub page_size : ℕ
page_size = 400

-- a line: its key with the =, its value, byte 10
unfoldable pub line : List ℕ → List ℕ → List ℕ
line key value = key ++ (value ++ (10 ∷ []))

-- the text on a page
abbrev pub said : Page → List ℕ
said p = p.text.items

-- a text has room after what a page says; it is a fact on a page and a text, so that neither's type can hold it
pub record Room (text : List ℕ) (p : Page) : Type 0 where
  pub fits : length (said p) + length text ≤ page_size

-- a text was put at a page's end
pub record Adds (text : List ℕ) (before after : Page) : Type 0 where
  pub says : said after ≡ said before ++ text
