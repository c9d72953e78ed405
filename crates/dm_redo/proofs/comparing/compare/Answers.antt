use Rattle.std.proofs.Common.{◌∙◌, ap, ℕ, List, ◌++◌, ◌∷◌}
use Rattle.std.specs.Prelude.{option_map}
use Rattle.dm_redo.proofs.Againsts.{kept_gate, kept_frames, ok_on}
use Rattle.dm_redo.proofs.Agreeing.{kept_expects}
use Rattle.dm_redo.proofs.comparing.compare.Goals as goal

pub returns-clause-gate : goal.returns-clause-gate
returns-clause-gate c =
    ok_on _ _ c.answer-in-Some.result c.answer-in-Some.ensures.ok (λ r h.
    kept_gate c.args.written.now _ c.in-Some.frame.now c.deref-in-Some-2.result.now r (ap (option_map (λ f. f.now)) c.in-Some.is)
    (c.deref-in-Some-2.ensures.value ∙ c.in-Ok-put.ensures.put ∙ ap (λ (l : List ℕ). l ++ 1 ∷ c.in-Some.frame.now) c.in-Ok.ensures.joined) h.1)

pub returns-clause-frames : goal.returns-clause-frames
returns-clause-frames c =
    ok_on _ _ c.answer-in-Some.result c.answer-in-Some.ensures.ok (λ r h.
    kept_frames c.args.written.now _ c.in-Some.frame.now c.deref-in-Some-2.result.now r (ap (option_map (λ f. f.now)) c.in-Some.is)
    c.in-Ok.ensures.frames c.in-Ok-put.ensures.frame h.1)

pub returns-clause-expected : goal.returns-clause-expected
returns-clause-expected c =
    kept_expects c.args.written.now _ c.in-Some.frame.now c.deref-in-Some-2.result.now c.args.file.now c.answer-in-Some.result (ap (option_map (λ f. f.now)) c.in-Some.is)
    (c.deref-in-Some-2.ensures.value ∙ c.in-Ok-put.ensures.put ∙ ap (λ (l : List ℕ). l ++ 1 ∷ c.in-Some.frame.now) c.in-Ok.ensures.joined) c.answer-in-Some.ensures.err
