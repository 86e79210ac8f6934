mod TestRows
