mod StatementLaws
