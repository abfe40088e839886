-- What a caller cites of the lemmas on samples, columns and cells, passed on from one place. Declares nothing.
pub use Rattle.sf_slabs.proofs.AboveLaws.{is_above-height, passes}
pub use Rattle.sf_slabs.proofs.CellLaws.{AgreeOn, cell_of-same, is_above-same, is_on-same, numbers_from-agree, point_at-same}
pub use Rattle.sf_slabs.proofs.ColumnLaws.{event_places}
pub use Rattle.sf_slabs.proofs.CrossLaws.{crossing-is, is-crossing, level-parallel, level_at-point, place-IsFraction}
pub use Rattle.sf_slabs.proofs.EachLaws.{each-append, each-both, each-map, each-parts}
pub use Rattle.sf_slabs.proofs.EndLaws.{Each-left, Each-right, passes-places, whole-number}
pub use Rattle.sf_slabs.proofs.EventLaws.{Some_in, Some_in-map, event_places-numbers, flat_map-Some_of, is-event}
pub use Rattle.sf_slabs.proofs.FollowLaws.{le_of_lt, not_le-lt}
pub use Rattle.sf_slabs.proofs.GapLaws.{one_of, within-whole}
pub use Rattle.sf_slabs.proofs.HeightsLaws.{fraction_eq-same, height_at-same, heights_in, heights_in-numbers, heights_in-same}
pub use Rattle.sf_slabs.proofs.LevelLaws.{middle-above, middle-below, one_less-below}
pub use Rattle.sf_slabs.proofs.MarkLaws.{middle-number}
pub use Rattle.sf_slabs.proofs.NumberLaws.{Among, Among-sorted_by, Each-before, IsOrder, Numbers, Pairs, Same-trans, falling_order, rising_order}
pub use Rattle.sf_slabs.proofs.OnLaws.{IsPoint-point_at, on_edge-height, on_edge-vertical, same_point-at, x_of-point_at, y_of-point_at}
pub use Rattle.sf_slabs.proofs.SampleLaws.{Each-sorted_by, Follow, Follow-sorted_by, FollowFrom, Some_of, if_cases, same_number}
pub use Rattle.sf_slabs.proofs.TopLaws.{goes_on-reaches, goes_on-slants, if_false, if_true, one_more-above, passes-listed}
