use Rattle.std.proofs.Common.{◌≡◌, ◌∙◌, ap, List, Ok, ℕ, take, refl, inr}
use Rattle.dm_disk.specs.Putting.{appended}
use Rattle.dm_lines.specs.File.{schedule_of}
use Rattle.dm_top.specs.Step.{IsRun, output_of}
use Rattle.dm_top.proofs.Runs.{history_is, text_of}
use Rattle.dm_top.proofs.stepping.drive_lines.Goals as goal
use Rattle.dm_top.proofs.stepping.drive_lines.Goals.{in-Err-whole, in-Ok-whole+in-Whole, in-Ok-whole+in-Fault}

pub returns : goal.returns
returns g c =
    let layout = c.in-Ok.schedule.schema in
    let lines = c.in-Ok.schedule.lines.items in
    let said : schedule_of c.args.bytes.now ≡ Ok (layout, lines) = c.in-Ok.ensures.exact in
    let same = c.into_steps-history.ensures in
    let run : IsRun c.args.bytes.now layout lines c.into_steps-history.result.items = record {
      schedule = said;
      driven = same.same ∙ c.in-Ok-drive.ensures.history;
      is = history_is c.in-Ok-drive.ensures.layout same.legal same.snapshot same.ordered same.session_up same.one_master;
    } in
    elim c.match-whole.branch [
      | in-Err-whole w ↦ rw (w.status-is, w.sink-is) (inr (layout, lines, run), refl)
      | in-Ok-whole+in-Whole w ↦
          let text : w.deref.result.now ≡ output_of layout lines = w.deref.ensures.value
          ∙ text_of lines c.in-Ok-drive.ensures.layout c.in-Ok-drive.ensures.history c.new-out.ensures.items c.in-Ok-drive.ensures.answers
          w.in-Ok-whole.ensures in
          rw (w.status-is, w.sink-is) (layout, lines, run, w.write_all.ensures.whole w.in-Whole.is ∙ ap (appended (g.W.Sink.written c.args.sink.now)) text)
      | in-Ok-whole+in-Fault w ↦
          let text : w.deref.result.now ≡ output_of layout lines = w.deref.ensures.value
          ∙ text_of lines c.in-Ok-drive.ensures.layout c.in-Ok-drive.ensures.history c.new-out.ensures.items c.in-Ok-drive.ensures.answers
          w.in-Ok-whole.ensures in
          let (n, part) = w.write_all.ensures.part in
          rw (w.status-is, w.sink-is) (
            layout,
            lines,
            run,
            record {
              count = n;
              part = part ∙ ap (λ (text : List ℕ). appended (g.W.Sink.written c.args.sink.now) (take n text)) text;
              fault = w.write_all.ensures.cause w.in-Fault.is;
            },
          )
    ]
