mod HandlingLaws
mod ServiceLaws
mod StoppingLaws
mod StoredLaws
