-- What a report says after the replies: moves, sites, partitions, totals and steps.
use Rattle.std.specs.Fmt.{decimal}
use Rattle.std.specs.List.{flat_map, range_with_len}
use Rattle.std.specs.Prelude.{ℕ, Bool, true, false, List, ◌++◌, length, reverse, codes}
use Rattle.dm_event.specs.declared.placing.Placing.{Placing}
use Rattle.dm_event.specs.declared.placing.Placing.TheVariants.{Settled, Asked, Between, Granted}
use Rattle.dm_event.specs.declared.step.Step.{Step}
use Rattle.dm_event.specs.Layout.{Layout}
use Rattle.dm_event.specs.Vectors.{sites_to}
use Rattle.dm_history.specs.Steps.{step_text}
use Rattle.dm_model.specs.Acts.{acts}
use Rattle.dm_model.specs.Doubts.{is_down}
use Rattle.dm_model.specs.Placings.{placing}
use Rattle.dm_model.specs.Progress.{site_vector}
use Rattle.dm_report.specs.declared.moves.Move.{Move}
use Rattle.dm_report.specs.declared.totals.Totals.{Totals}
use Rattle.dm_report.specs.Moves.{moves_by}
use Rattle.dm_report.specs.Totals.{totals_of}
use Rattle.dm_text.specs.Texts.{vector_text}

-- `move 2 epoch 1 from 1 to 3`
unfoldable pub move_text : Move → List ℕ
move_text m =
    codes "move " ++ (decimal m.part ++ (codes " epoch "
    ++ (decimal m.epoch ++ (codes " from " ++ (decimal m.from ++ (codes " to " ++ (decimal m.to ++ codes "\n")))))))

-- `moves 2`, and a line for each
unfoldable pub moves_text : List Move → List ℕ
moves_text moves = codes "moves " ++ (decimal (length moves) ++ (codes "\n" ++ flat_map move_text moves))

-- the end of a site's line
unfoldable pub down_text : Bool → List ℕ
down_text true = codes " down\n"
down_text false = codes "\n"

-- `site 1 [1 0]`, and `site 1 [1 0] down`
unfoldable pub site_text : Layout → List Step → ℕ → List ℕ
site_text layout past i =
    codes "site " ++ (decimal i ++ (codes " " ++ (vector_text (site_vector layout.sites past i) ++ down_text (is_down i past))))

-- the lines of the sites from 1 up to the number
unfoldable pub sites_text : Layout → List Step → ℕ → List ℕ
sites_text layout past n = flat_map (site_text layout past) (sites_to n)

-- where a partition stands
unfoldable pub placing_text : Placing → List ℕ
placing_text (Settled site epoch) = codes " at " ++ (decimal site ++ (codes " epoch " ++ decimal epoch))
placing_text (Asked site epoch to) = codes " at " ++ (decimal site ++ (codes " epoch " ++ decimal epoch))
placing_text (Between site epoch to vector) =
    codes " between " ++ (decimal site ++ (codes " and " ++ (decimal to ++ (codes " epoch " ++ decimal epoch))))
placing_text (Granted site epoch) = codes " at " ++ (decimal site ++ (codes " epoch " ++ decimal epoch))

-- `part 0 at 1 epoch 0`, and `part 0 between 1 and 2 epoch 0`
unfoldable pub part_text : Layout → List Step → ℕ → List ℕ
part_text layout past p = codes "part " ++ (decimal p ++ (placing_text (placing layout past p) ++ codes "\n"))

-- the lines of the partitions below the number
unfoldable pub parts_text : Layout → List Step → ℕ → List ℕ
parts_text layout past n = flat_map (part_text layout past) (range_with_len 0 n)

-- how many Replies there are of each outcome
unfoldable pub totals_text : Totals → List ℕ
totals_text t =
    (codes "total committed " ++ (decimal t.committed ++ (codes " read " ++ (decimal t.read ++ (codes " placed " ++ decimal t.placed)))))
    ++ (codes " restarted " ++ (decimal t.restarted ++ (codes " in doubt "
    ++ (decimal t.in_doubt ++ (codes " refused " ++ (decimal t.refused ++ codes "\n"))))))

-- `steps 4`, and the line of each
unfoldable pub steps_text : List Step → List ℕ
steps_text history = codes "steps " ++ (decimal (length history) ++ (codes "\n" ++ flat_map step_text history))

-- all of it, for the history with the earliest step first
unfoldable pub rest_text : Layout → List Step → List ℕ
rest_text layout history =
    let past = reverse history in
    moves_text (reverse (moves_by (acts past)))
    ++ (sites_text layout past layout.sites
    ++ (parts_text layout past (length layout.masters) ++ (totals_text (totals_of past) ++ steps_text history)))
