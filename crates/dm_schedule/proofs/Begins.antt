-- A text that begins with another.
use Rattle.std.proofs.Common.{◌≡◌, ◌∙◌, ap, sym, ℕ, List, [], ◌++◌, append_assoc}
use Rattle.std.proofs.lemmas.List.{append-nil}
use Rattle.dm_text.specs.Text.{Begins}

pub begins_same : (text : List ℕ) → Begins text text
begins_same text = record { rest = []; whole = sym (append-nil text) }

pub begins_further : (new old older : List ℕ) → Begins new old → Begins old older → Begins new older
begins_further new old older a b = record {
  rest = b.rest ++ a.rest;
  whole = a.whole ∙ ap (λ (x : List ℕ). x ++ a.rest) b.whole
      ∙ append_assoc older b.rest a.rest;
}

pub begins_more : (new old older text : List ℕ) → new ≡ old ++ text → Begins old older → Begins new older
begins_more new old older text put b = begins_further new old older (record { rest = text; whole = put }) b
