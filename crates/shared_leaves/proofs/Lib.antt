mod EditLaws
mod EndsLaws
mod JoinedLaws
