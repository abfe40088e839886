use Rattle.std.proofs.Common.{◌≡◌, ◌∙◌, length}
use Rattle.std.proofs.lemmas.Result.{IfOk-weaker}
use Rattle.sf_cells.specs.Cells.{cells}
use Rattle.sf_cells.specs.Listing.{listing_of, measured_by, recorded_cells}
use Rattle.sf_cells.proofs.CallerLemmas.{HasMeasuredRoom, IsRecorded, IsRecorded-walk, own-below, own-length}
use Rattle.sf_slabs.proofs.decomposition.decompose.Goals as goal
use Rattle.sf_slabs.proofs.decomposition.decompose.Goals.{After-as_slice-4}

pub walk-requires-clause-one_group_each : goal.walk-requires-clause-one_group_each
walk-requires-clause-one_group_each c =
    own-length c.as_slice.result.now (length c.args.pieces.now) (c.as_slice.ensures.value ∙ c.in_ok-groups.ensures)

pub walk-requires-clause-groups_in_range : goal.walk-requires-clause-groups_in_range
walk-requires-clause-groups_in_range c =
    own-below c.as_slice.result.now (length c.args.pieces.now) (c.as_slice.ensures.value ∙ c.in_ok-groups.ensures)

pub walk-requires-2-clause-one_group_each : goal.walk-requires-2-clause-one_group_each
walk-requires-2-clause-one_group_each c =
    own-length c.as_slice-2.result.now (length c.args.pieces.now) (c.as_slice-2.ensures.value ∙ c.in_ok-groups.ensures)

pub walk-requires-2-clause-groups_in_range : goal.walk-requires-2-clause-groups_in_range
walk-requires-2-clause-groups_in_range c =
    own-below c.as_slice-2.result.now (length c.args.pieces.now) (c.as_slice-2.ensures.value ∙ c.in_ok-groups.ensures)

-- the recorder begins with the room that the first walk measured
has_room : (c : After-as_slice-4) → HasMeasuredRoom (measured_by c.walk.new.sink) (listing_of c.in_ok-recorder.recorder)
has_room c =
    let made = c.in_ok-recorder.ensures in
    record {
      heads = made.heads;
      numbers = made.numbers;
      head_room = made.head_room;
      number_room = made.number_room;
      few_heads = c.in_ok-recorder.recorder.heads.small;
      few_numbers = c.in_ok-recorder.recorder.numbers.small;
    }

-- so the second walk records the cells
is_recorded : (c : After-as_slice-4) → IsRecorded c.args.pieces.now c.as_slice-3.result.now c.as_slice-4.result.now
is_recorded c =
    IsRecorded-walk c.args.pieces.now c.as_slice.result.now c.as_slice-2.result.now (measured_by c.walk.new.sink) (listing_of c.in_ok-recorder.recorder) (listing_of c.walk-2.new.sink)
    c.as_slice-3.result.now c.as_slice-4.result.now c.requires.few (c.as_slice.ensures.value ∙ c.in_ok-groups.ensures) (c.as_slice-2.ensures.value ∙ c.in_ok-groups.ensures)
    c.in_ok-walk.ensures.ok (has_room c) c.in_ok-walk-2.ensures.ok c.as_slice-3.ensures.value c.as_slice-4.ensures.value

pub recorded-requires : goal.recorded-requires
recorded-requires c = (is_recorded c).takes

pub returns : goal.returns
returns c =
    IfOk-weaker c.recorded.result (λ found. found.items ≡ recorded_cells c.as_slice-3.result.now c.as_slice-4.result.now)
    (λ found. found.items ≡ cells c.args.pieces.now) (λ found e. e ∙ (is_recorded (goal.at.returns c).After-as_slice-4).are_cells) c.recorded.ensures
