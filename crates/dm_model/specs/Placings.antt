-- Where each partition is mastered, and how far its hand-over has come.
use Rattle.std.specs.Prelude.{ℕ, Bool, false, ◌==◌, if◌then◌else◌, List, [], ◌∷◌, slice_index}
use Rattle.dm_event.specs.Layout.{Layout}
use Rattle.dm_event.specs.declared.placing.Placing.{Placing}
use Rattle.dm_event.specs.declared.placing.Placing.TheVariants.{Settled, Asked, Between, Granted}
use Rattle.dm_event.specs.declared.step.Step.{Step}
use Rattle.dm_event.specs.declared.step.Step.TheVariants.{Ask, Settle, Release, Grant}
use Rattle.dm_model.specs.Acts.{acts_of}

-- a settled partition is asked for
abbrev pub asked : Placing → ℕ → Placing
asked (Settled site epoch) to = Asked site epoch to
asked other to = other

-- a granted partition is opened for routing
abbrev pub settled : Placing → Placing
settled (Granted site epoch) = Settled site epoch
settled other = other

-- the placing after the acts of one step, of which there is at most one
abbrev pub after_acts : ℕ → List Step → Placing → Placing
after_acts p [] placing = placing
after_acts p (Release site part epoch to vector ∷ more) placing = if part == p then Between site epoch to vector else placing
after_acts p (Grant site part epoch vector ∷ more) placing = if part == p then Granted site epoch else placing
after_acts p (s ∷ more) placing = placing

abbrev pub placed_by : ℕ → Step → List Step → Placing → Placing
placed_by p (Ask part epoch to txn) past placing = if part == p then asked placing to else placing
placed_by p (Settle part epoch) past placing = if part == p then settled placing else placing
placed_by p s past placing = after_acts p (acts_of s past) placing

-- the placing of the partition
abbrev pub placing : Layout → List Step → ℕ → Placing
placing layout [] part = Settled (slice_index layout.masters part) 0
placing layout (step ∷ past) part = placed_by part step past (placing layout past part)

-- the site masters a partition that is placed so
abbrev pub masters_now : Placing → ℕ → Bool
masters_now (Settled site epoch) i = site == i
masters_now (Asked site epoch to) i = site == i
masters_now (Between site epoch to vector) i = false
masters_now (Granted site epoch) i = site == i

-- the site may begin a transaction on a partition that is placed so
abbrev pub may_begin_now : Placing → ℕ → Bool
may_begin_now (Settled site epoch) i = site == i
may_begin_now (Asked site epoch to) i = false
may_begin_now (Between site epoch to vector) i = false
may_begin_now (Granted site epoch) i = site == i

-- the master, or where there is none the site that is to be
abbrev pub home_now : Placing → ℕ
home_now (Settled site epoch) = site
home_now (Asked site epoch to) = site
home_now (Between site epoch to vector) = to
home_now (Granted site epoch) = site

-- settled at the site
abbrev pub settled_at : Placing → ℕ → Bool
settled_at (Settled site epoch) i = site == i
settled_at other i = false
