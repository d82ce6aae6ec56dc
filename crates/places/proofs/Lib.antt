pub mod PlanePlaces  -- the eight places of a plane are what a sweep asks
mod PlaceAnswers  -- the answers of `Spot::neighbour` and `place`
